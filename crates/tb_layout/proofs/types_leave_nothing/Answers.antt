-- By the equations; one of each further file of them is named, so that each file is checked.
use Rattle.std.proofs.Common.{[], None, false, refl, sym, ◌∙◌}
use Rattle.tb_layout.proofs.Baring as baring
use Rattle.tb_layout.proofs.Erasing as erasing
use Rattle.tb_layout.proofs.Keeping as keeping
use Rattle.tb_layout.proofs.Lacking as lacking
use Rattle.tb_layout.proofs.Laying as laying
use Rattle.tb_layout.proofs.Naming as naming
use Rattle.tb_layout.proofs.Quoting as quoting
use Rattle.tb_layout.proofs.Requoted as requoted
use Rattle.tb_layout.proofs.Showing as showing
use Rattle.tb_layout.proofs.Steadying as steadying
use Rattle.tb_layout.proofs.Swapping as swapping
use Rattle.tb_layout.proofs.Values as values
use Rattle.tb_layout.proofs.Written as written
use Rattle.tb_layout.proofs.types_leave_nothing.Goals as goal

pub returns-clause-casts : goal.returns-clause-casts
returns-clause-casts c =
    let of_bare = baring.this_expr in
    let of_erased = erasing.this_expr in
    let of_kept = keeping.rounds_find_all in
    let of_lacking = lacking.this_expr in
    let of_laid = laying.this_expr in
    let of_named = naming.keyword_type in
    let of_quoted = quoting.keyword_type in
    let of_requoted = requoted.surface_quoted in
    let of_shown = showing.keyword_type in
    let of_steady = steadying.this_expr in
    let of_swapped = swapping.surface_swapped in
    let of_values = values.quoted_twice in
    written.as_expr

pub returns-clause-arguments : goal.returns-clause-arguments
returns-clause-arguments c = λ at callee types arguments n. written.call_expr at callee types arguments n ∙ sym (written.call_expr at callee [] arguments n)

pub returns-clause-annotations : goal.returns-clause-annotations
returns-clause-annotations c = λ at name annotation value n. written.declarator_rolled (record { at = at; name = name; annotation = annotation; value = value }) n
    ∙ sym (written.declarator_rolled (record { at = at; name = name; annotation = None; value = value }) n)

pub returns-clause-parameters : goal.returns-clause-parameters
returns-clause-parameters c = λ at name optional annotation value n. written.param_rolled (record { at = at; name = name; optional = optional; annotation = annotation; value = value }) n
    ∙ sym (written.param_rolled (record { at = at; name = name; optional = false; annotation = None; value = value }) n)

pub returns-clause-signatures : goal.returns-clause-signatures
returns-clause-signatures c = λ at name variables params result of n. written.function_rolled (record { at = at; name = name; variables = variables; params = params; result = result; body = of }) n
    ∙ sym (written.function_rolled (record { at = at; name = name; variables = []; params = params; result = None; body = of }) n)

pub returns-clause-arrows : goal.returns-clause-arrows
returns-clause-arrows c = λ at params result of n. written.arrow_expr at params result of n ∙ sym (written.arrow_expr at params None of n)

pub returns-clause-fields : goal.returns-clause-fields
returns-clause-fields c = λ at is_static read_only name optional annotation value n. refl

pub returns-clause-methods : goal.returns-clause-methods
returns-clause-methods c = λ at is_static name params result of n. refl

pub returns-clause-bases : goal.returns-clause-bases
returns-clause-bases c = λ at name bases members. refl
