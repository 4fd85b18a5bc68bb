-- What the code's contents stand for. This project's own.
use Rattle.serde_json.specs.View.{view}
use Rattle.tb_config.specs.Configs as spec
use Rattle.tb_config.specs.declared.contents.Content.{Content}
use Rattle.tb_config.specs.declared.contents.Content.TheVariants.{Missing, Unreadable, Object}

abbrev pub seen_content : Content → spec.Content
seen_content Missing = spec.Missing
seen_content Unreadable = spec.Unreadable
seen_content (Object value) = spec.Object (view value)
