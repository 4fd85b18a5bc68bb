-- The law of declarations: reading the declaration file of a surface answers this surface but for offsets.
use Rattle.std.proofs.Common.{List, sym, subst, Result}
use Rattle.std.specs.List.{AllByRecursion}
use Rattle.tb_tree.specs.declared.items.SurfaceItem.{SurfaceItem}
use Rattle.tb_tree.specs.declared.items.Surface.{Surface}
use Rattle.tb_layout.specs.Kept.{known_names}
use Rattle.tb_layout.specs.Surface.{surface}
use Rattle.tb_layout.specs.Quoted.{quoted_surface}
use Rattle.tb_layout.specs.Dts.{dts_text}
use Rattle.tb_layout.proofs.Requoted.{surface_quoted}
use Rattle.tb_parse_file.specs.declared.FileFault.{FileFault}
use Rattle.tb_parse_file.specs.Decls.{DeclAnswers, all_kept}
use Rattle.tb_emit_law.specs.DtsLaw.{IsGiven, of_file, of_text, DerivesSurface, DtsDerives, AnswersAs, DtsReadsBack}
use Rattle.tb_emit_law.proofs.Source.{source_formed}
use Rattle.tb_emit_law.proofs.DeclGiven.{ItemGiven, file_given, decl_given, backs_of, fits_of}
use Rattle.tb_emit_law.proofs.DeclAnswered.{given_derives, given_answers}

-- what reading a surface's declaration file answers
abbrev IsAnswered : Surface → Type 0
IsAnswered of = (result : Result Surface FileFault) → DeclAnswers (dts_text of) result → AnswersAs of result

answered : (items : List SurfaceItem) → AllByRecursion ItemGiven items → IsAnswered (quoted_surface (record { items = items }))
answered items h = given_answers (record { items = items }) (backs_of items h) (fits_of items h)

given_answered : {of : Surface} → IsGiven of → IsAnswered of
given_answered (of_file source file r) =
    let left = surface file in
    subst IsAnswered (surface_quoted file) (answered left.items (file_given (known_names file) r.items (source_formed r.symbols)))
given_answered (of_text text of r) = subst IsAnswered (sym r.same) (answered (all_kept r.items) (decl_given r.reads (source_formed r.symbols)))

abbrev IsDerived : Surface → Type 0
IsDerived of = DerivesSurface (dts_text of) of

derived : (items : List SurfaceItem) → AllByRecursion ItemGiven items → IsDerived (quoted_surface (record { items = items }))
derived items h = given_derives (record { items = items }) (backs_of items h) (fits_of items h)

pub dts_derives : DtsDerives
dts_derives _ (of_file source file r) =
    let left = surface file in
    subst IsDerived (surface_quoted file) (derived left.items (file_given (known_names file) r.items (source_formed r.symbols)))
dts_derives _ (of_text text of r) = subst IsDerived (sym r.same) (derived (all_kept r.items) (decl_given r.reads (source_formed r.symbols)))

pub dts_reads_back : DtsReadsBack
dts_reads_back of given result answers = given_answered given result answers
