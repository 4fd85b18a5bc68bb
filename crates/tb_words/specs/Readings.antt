-- How words are read: by one simple command of `clap`. The options are those of `tsc --build`; `--workers`, `--turns` and `--gen` are this project's own.
use Rattle.std.specs.Prelude.{ℕ, Bool, true, List, [], ◌∷◌, Option, Some, None, codes, nat_lt, unwrap_or, option_map, map}
use Rattle.tb_words.specs.declared.parse.Words.{Words}
use Rattle.clap.specs.Walk.{Row, Rule, Text, count_of, first_of, all_of}
use Rattle.clap.specs.Simple.{App, Shape, new_app, new_rule, with_rule, on_top, matches_of}
use Rattle.clap.specs.Faults.{fault_of}
use Rattle.clap.specs.Kinds.{Kinds}
use Rattle.clap.specs.declared.builder.action.ArgAction.TheVariants.{Set, Append, Count}

-- what the words give
pub record Given : Type 0 where
  pub force : Bool
  pub clean : Bool
  pub dry : Bool
  pub watch : Bool
  pub verbose : Bool
  pub workers : Option Text
  pub turns : Option Text
  pub gen_number : Option Text
  pub roots : List Text

-- ---- the command

abbrev pub flag_rule : Text → Option ℕ → Rule
flag_rule name short = record (new_rule name) { long = Some name; short = short; action = Some Count }

abbrev pub value_rule : Text → Rule
value_rule name = record (new_rule name) { long = Some name; action = Some Set }

abbrev pub root_rule : Rule
root_rule = record (new_rule (codes "root")) { action = Some Append }

abbrev pub empty_app : App
empty_app = on_top (λ (s : Shape). record s { no_binary_name = true; disable_help_flag = true }) (new_app (codes "tsb"))

abbrev pub with_flags : App → App
with_flags app =
    with_rule (with_rule (with_rule (with_rule (with_rule (with_rule app
    (flag_rule (codes "build") (Some 98))) (flag_rule (codes "force") (Some 102))) (flag_rule (codes "clean") None))
    (flag_rule (codes "dry") (Some 100))) (flag_rule (codes "watch") (Some 119))) (flag_rule (codes "verbose") (Some 118))

abbrev pub with_values : App → App
with_values app =
    with_rule (with_rule (with_rule (with_rule app (value_rule (codes "workers"))) (value_rule (codes "turns"))) (value_rule (codes "gen"))) root_rule

abbrev pub tsb_app : App
tsb_app = with_values (with_flags empty_app)

-- ---- its matches

abbrev pub is_given : Text → List Row → Bool
is_given name rows = nat_lt 0 (count_of name rows)

abbrev pub given_by : List Row → Given
given_by rows = record {
  force = is_given (codes "force") rows;
  clean = is_given (codes "clean") rows;
  dry = is_given (codes "dry") rows;
  watch = is_given (codes "watch") rows;
  verbose = is_given (codes "verbose") rows;
  workers = first_of (codes "workers") rows;
  turns = first_of (codes "turns") rows;
  gen_number = first_of (codes "gen") rows;
  roots = unwrap_or (all_of (codes "root") rows) [];
}

-- what the code keeps of the matches
abbrev pub seen : Words → Given
seen words = record {
  force = words.force;
  clean = words.clean;
  dry = words.dry;
  watch = words.watch;
  verbose = words.verbose;
  workers = option_map (λ text. text.now) words.workers;
  turns = option_map (λ text. text.now) words.turns;
  gen_number = option_map (λ text. text.now) words.gen_number;
  roots = map (λ text. text.now) words.roots.items;
}

-- what is read where `clap` finds no fault
abbrev pub without_fault : Kinds → Given → Option Given
without_fault [] given = Some given
without_fault (kind ∷ kinds) given = None

-- what the words give, where they have a reading
unfoldable pub reading_of : List Text → Option Given
reading_of words = without_fault (fault_of tsb_app words) (given_by (matches_of tsb_app words))
