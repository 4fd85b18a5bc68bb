-- An info and its text, to see what `spelling` means. Its digests are short.
use Rattle.std.proofs.Common.{◌≡◌, [], ◌∷◌, false, None, codes, refl}
use Rattle.std.specs.Fmt.{digits}
use Rattle.hex.specs.Hex.{encode_with}
use Rattle.serde_json.proofs.OnLiterals.{serde_json_on_literals}
use Rattle.tb_text.specs.declared.edges.Target.TheVariants.{Found, Missing}
use Rattle.tb_text.specs.declared.edges.Edge.{Edge}
use Rattle.tb_text.specs.declared.findings.Finding.{Finding}
use Rattle.tb_face.specs.declared.infos.Entry.{Entry}
use Rattle.tb_face.specs.declared.infos.Info.{Info}
use Rattle.tb_face.specs.Infos.{edge_data, finding_data, reach_data, entry_data, info_data, spelling}

abbrev edge : Edge
edge = record { spec = codes "./b"; to = Found (codes "a/b.ts") }

abbrev lost : Edge
lost = record { spec = codes "x"; to = Missing }

abbrev finding : Finding
finding = record { offset = 3; code = record { own = false; number = 2322 }; first = codes "number"; second = codes "a\"b" }

abbrev entry : Entry
entry = record { path = codes "a/a.ts"; version = 171 ∷ []; signature = None; edges = edge ∷ lost ∷ []; reach = []; findings = finding ∷ [] }

abbrev info : Info
info = record { project = codes "a/tsconfig.json"; root = codes "a"; options = 1 ∷ 15 ∷ []; files = entry ∷ []; pending = codes "a/a" ∷ [] }

text : spelling info
    ≡ codes "{\"builder\":\"tb1\",\"files\":[{\"edges\":[[\"./b\",0,\"a/b.ts\"],[\"x\",2,\"\"]],\"findings\":[[3,\"TS2322\",\"number\",\"a\\\"b\"]],\"path\":\"a/a.ts\",\"reach\":[],\"signature\":null,\"version\":\"ab\"}],\"options\":\"010f\",\"pending\":[\"a/a\"],\"project\":\"a/tsconfig.json\",\"root\":\"a\"}"
unfolding digits serde_json_on_literals encode_with edge_data finding_data reach_data entry_data info_data spelling
text = refl
