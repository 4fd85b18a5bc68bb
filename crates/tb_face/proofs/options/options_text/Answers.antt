use Rattle.serde_json.specs.View.{view}
use Rattle.tb_face.proofs.OptionsText.{spelled}
use Rattle.tb_face.proofs.options.options_text.Goals as goal

pub returns : goal.returns
returns c = rw (c.from_vec.ensures, c.into_bytes.ensures.value) (spelled c.args.options.now (view c.in_ok-value.value) _ c.in_ok-value.ensures c.in_ok-text.ensures.text)
