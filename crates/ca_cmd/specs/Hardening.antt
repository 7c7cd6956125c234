-- The plan by which a command hardens its source.
use Rattle.std.specs.Prelude.{◌≡◌, ℕ, List, Bool, true, false, unwrap_or}
use Rattle.ca_model.specs.declared.plan.Plan.{Plan}
use Rattle.ca_model.specs.Codes.{Typed}
use Rattle.ca_model.specs.typing.Sources.{Source}
use Rattle.ca_model.specs.Plans.{IsPlanOf}
use Rattle.ca_model.specs.SourceRuns.{no_plan}
use Rattle.ca_plan.specs.declared.options.PlanOptions.{PlanOptions as Wanted}
use Rattle.ca_plan.specs.Planning.{options_of, named, AreSiteNumbers, IsFirstNoSite}
use Rattle.ca_plan.specs.SiteTables.{IsSiteTable}
use Rattle.ca_commands.specs.Words.{PlanOptions}

-- an activation may retry 100 times at a site, and 3 calls are gone up, where the words don't say
abbrev pub wanted : PlanOptions → Wanted
wanted o = record { limit = unwrap_or o.limit 100; depth = unwrap_or o.depth 3; only = o.only }

-- no plan where the source is taken as it is; else the plan of the source, in which there are the sites that are named
abbrev pub IsHardening : Bool → PlanOptions → Typed → Plan → Type 0
IsHardening true o p plan = plan ≡ no_plan
IsHardening false o p plan = AreSiteNumbers p (named o.only) × IsPlanOf p (options_of (wanted o)) plan

-- the first number that is named and no site's
abbrev pub LacksSite : Bool → PlanOptions → Typed → ℕ → Type 0
LacksSite true o p n = ⊥
LacksSite false o p n = IsFirstNoSite p (named o.only) n

-- the table of the sites of a source, in which there are the sites that are named
abbrev pub IsTableBy : PlanOptions → Source → List ℕ → Type 0
IsTableBy o x text = AreSiteNumbers x.typed (named o.only) × IsSiteTable x (options_of (wanted o)) text
