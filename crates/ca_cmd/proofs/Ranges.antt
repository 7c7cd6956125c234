-- The numbers that words say are within their ranges, and so are those that stand for them where they say none.
use Rattle.std.proofs.Common.{◌≤◌, ℕ, List, [], ◌∷◌, Option, Some, None, arith}
use Rattle.std.specs.Prelude.{unwrap_or}
use Rattle.ca_commands.specs.Words.{IsNumber, IsRead, PlanOptions, RunOptions, Piece, SaysPlan, Command, Run, Check, Sites, Project, Lift, Means}
use Rattle.ca_cmd.specs.Hardening.{wanted}
use Rattle.ca_cmd.specs.Runs.{most_events}
use Rattle.ca_cmd.specs.Commands.{said_of}

within : (least most other : ℕ) (vs : List (List ℕ)) (e : Option ℕ) → IsRead (IsNumber least most) vs e → other ≤ most → unwrap_or e other ≤ most
within least most other vs None r small = small
within least most other [] (Some n) r small = absurd r
within least most other (t ∷ []) (Some n) r small = r.below
within least most other (t ∷ u ∷ more) (Some n) r small = absurd r

said_limit : (ps : List Piece) (o : PlanOptions) → SaysPlan ps o → (wanted o).limit ≤ 10000
said_limit ps o says = within 0 10000 100 _ o.limit says.limit (omega arith)

said_depth : (ps : List Piece) (o : PlanOptions) → SaysPlan ps o → (wanted o).depth ≤ 8
said_depth ps o says = within 0 8 3 _ o.depth says.depth (omega arith)

says_plan : (words : List (List ℕ)) (c : Command) (m : Means words c) → SaysPlan m.pieces (said_of c)
says_plan words (Run o) m = m.says.hardening.plan
says_plan words (Check o) m = m.says.hardening.plan
says_plan words (Sites o) m = m.says.plan
says_plan words (Project o) m = m.says.plan
says_plan words (Lift o) m = m.says.plan

pub few_tries : (words : List (List ℕ)) (c : Command) → Means words c → (wanted (said_of c)).limit ≤ 10000
few_tries words c m = said_limit m.pieces (said_of c) (says_plan words c m)

pub few_calls : (words : List (List ℕ)) (c : Command) → Means words c → (wanted (said_of c)).depth ≤ 8
few_calls words c m = said_depth m.pieces (said_of c) (says_plan words c m)

pub few_events : (words : List (List ℕ)) (o : RunOptions) → Means words (Run o) → most_events o.runner ≤ 2000000
few_events words o m = within 1 2000000 200000 _ o.runner.events m.says.runner.limit (omega arith)
