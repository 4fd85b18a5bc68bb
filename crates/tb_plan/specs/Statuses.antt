-- The settings and the status that the readings give, by the numbers of the configs. This project's own.
use Rattle.std.specs.Prelude.{ℕ, Bool, false, if◌then◌else◌, List, [], slice_get, Option, Some, None}
use Rattle.std.specs.BTreeMap.{get}
use Rattle.std.specs.List.{list_any}
use Rattle.tb_text.specs.Bytes.{bytes_cmp}
use Rattle.tb_text.specs.declared.findings.Diag.{Diag}
use Rattle.tb_text.specs.declared.statuses.Status.{Status}
use Rattle.tb_text.specs.declared.statuses.Status.TheVariants.{Skipped, InvalidProject, Cycle}
use Rattle.tb_config.specs.declared.setting.Setting.{Setting}
use Rattle.tb_plan.specs.Orders.{Paths}
use Rattle.tb_plan.specs.Plans.{faults_in, is_lost_by, setting_in}
use Rattle.tb_plan.specs.Searches.{reads}
use Rattle.tb_plan.specs.declared.readings.Reading.{Reading}
use Rattle.tb_plan.specs.declared.reach.Reach.{Reach}
use Rattle.tb_plan.specs.declared.visit.Arrangement.{Arrangement}
use Rattle.tb_plan.specs.declared.visit.Arrangement.TheVariants as arrangement

-- ---- settings

abbrev pub setting_read : Option Reading → List Setting
setting_read None = []
setting_read (Some r) = setting_in (reads r)

-- the setting of the config of a number, if it was read without a fault
abbrev pub setting_by : List Reading → ℕ → List Setting
setting_by readings number = setting_read (slice_get readings number)

-- ---- the status

abbrev pub faults_read : Option Reading → List Diag
faults_read None = []
faults_read (Some r) = faults_in (reads r)

-- the config of this number is missing or unreadable
abbrev pub lost_at : List Reading → Option ℕ → List ℕ → Bool
lost_at readings None root = false
lost_at readings (Some number) root = list_any (is_lost_by root) (faults_read (slice_get readings number))

abbrev pub is_lost_in : Reach → List ℕ → Bool
is_lost_in reach root = lost_at reach.readings.items (get bytes_cmp reach.configs.numbers root) root

abbrev pub status_after : Reach → Arrangement → Paths → Status
status_after reach (arrangement.Cycle numbers) roots = Cycle
status_after reach (arrangement.Order numbers) roots = if list_any (is_lost_in reach) roots then InvalidProject else Skipped
