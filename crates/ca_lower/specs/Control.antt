-- Control: where statements may stand, what lowering adds for them, and turns whose links are made last.
use Rattle.std.specs.Prelude.{◌≡◌, ◌<◌, ◌≤◌, ◌+◌, ℕ, Bool, true, false, List, [], ◌∷◌, map, length, drop, Option, Some, None, slice_get, Contains}
use Rattle.ca_model.specs.declared.tree.Item.{Item}
use Rattle.ca_model.specs.declared.tree.Stmt.{Stmt}
use Rattle.ca_model.specs.Frames.{Code}
use Rattle.ca_model.specs.Sites.{act_sites, items_in, items_in_all, items_of}
use Rattle.ca_model.specs.WellFormed.{is_condition, is_placed, all_placed}
use Rattle.ca_flow.specs.declared.instr.Instr.TheVariants as instr
use Rattle.ca_flow.specs.declared.instr.Links.TheVariants as links
use Rattle.ca_flow.specs.declared.instr.NodeId.{NodeId}
use Rattle.ca_flow.specs.declared.instr.Node.{Node}
use Rattle.ca_flow.specs.declared.instr.Step.{Step}
use Rattle.ca_flow.specs.Standing.{IsGraphOf}
use Rattle.ca_lower.specs.declared.builder.Builder.{Builder}
use Rattle.ca_lower.specs.declared.statements.Ways.{Ways}
use Rattle.ca_lower.specs.Scopes.{InFunction, InItem}
use Rattle.ca_lower.specs.Lowered.{is_pending, StandsIn, Works, Chooses, Marks, Runs}
use Rattle.ca_lower.specs.Building.{code_in, code_at, AllMarked, AllDrawn, Grows, HasSites}

-- ---- where statements stand: in a function, with the acts that may stand there

abbrev pub AreOf : InFunction → List Item → Type 0
AreOf x is = (i : Item) → Contains is i → Contains (items_of x.function) i

pub record StandsThere (x : InFunction) (s : Stmt) (in_loop : Bool) : Type 0 where
  pub placed : is_placed x.source s in_loop ≡ true
  pub items : AreOf x (items_in s)

pub record StandThere (x : InFunction) (ss : List Stmt) (in_loop : Bool) : Type 0 where
  pub placed : all_placed (map (is_placed x.source) ss) in_loop ≡ true
  pub items : AreOf x (items_in_all ss)

abbrev pub MayStandThere : InFunction → Option Stmt → Bool → Type 0
MayStandThere x None in_loop = Unit {0}
MayStandThere x (Some s) in_loop = StandsThere x s in_loop

pub record IsConditionThere (x : InFunction) (c : Item) : Type 0 where
  pub condition : is_condition c.act ≡ true
  pub own : Contains (items_of x.function) c

pub record IsWorkThere (x : InFunction) (i : Item) : Type 0 where
  pub condition : is_condition i.act ≡ false
  pub own : Contains (items_of x.function) i

abbrev pub MayWorkThere : InFunction → Option Item → Type 0
MayWorkThere x None = Unit {0}
MayWorkThere x (Some i) = IsWorkThere x i

-- ---- code of statements

module _ (code : Code) (g : List Step) (low width : ℕ) where
  -- statements one after another
  pub data RunAll : (in_loop : Bool) (n next leave again : ℕ) → List Stmt → Type 0 where
    no_more : {in_loop : Bool} {n leave again : ℕ} → RunAll in_loop n n leave again []
    one_more : {in_loop : Bool} {n m next leave again : ℕ} {s : Stmt} {ss : List Stmt} → Runs code g low width in_loop n m leave again s → RunAll in_loop m next leave again ss → RunAll in_loop n next leave again (s ∷ ss)

  -- the branch of an `else`; without one control goes on
  pub data RunElse : (in_loop : Bool) (n next leave again : ℕ) → Option Stmt → Type 0 where
    without : {in_loop : Bool} {n leave again : ℕ} → RunElse in_loop n n leave again None
    with : {in_loop : Bool} {n next leave again : ℕ} {s : Stmt} → Runs code g low width in_loop n next leave again s → RunElse in_loop n next leave again (Some s)

  -- an item of the head of a `for`, if it is there
  pub data RunStep : (n t : ℕ) → Option Item → Type 0 where
    no_step : {t : ℕ} → RunStep t t None
    one_step : {n j t : ℕ} {i : Item} {b : Bool} → Works code g low width n j i → code.saves_after i.id ≡ b → Marks code g low width b j t → RunStep n t (Some i)

  -- the condition of a loop from its turn on
  pub record Turns (t begin next : ℕ) (c : Item) : Type 0 where
    pub cond : NodeId
    pub one : ℕ
    pub other : ℕ
    pub node : Node
    pub at : slice_get g t ≡ Some (record { node = node; links = links.One cond })
    pub turns : node.instr ≡ instr.Turn
    pub chooses : Chooses code g low width cond.0 one other c
    pub marks : Marks code g low width (code.saves_after c.id) one begin
    pub marks_out : Marks code g low width (code.saves_after c.id) other next

  -- a loop from its turn on: the body goes on at the step, and the step at the turn
  pub record RunLoop (t begin next : ℕ) (c : Item) (body : Stmt) (o : Option Item) : Type 0 where
    pub step : ℕ
    pub turn : Turns t begin next c
    pub runs_body : Runs code g low width true begin step next step body
    pub steps : RunStep step t o

-- ---- code that is added

abbrev pub AddsMark : InItem → Builder → (n next : ℕ) → Type 0
AddsMark x new n next = (g : List Step) (width : ℕ) → StandsIn new.steps.items g → Marks (code_at x) g x.function.locals width ((code_at x).saves_after x.item.id) n next

abbrev pub AddsEntry : InItem → Builder → (n next : ℕ) → Type 0
AddsEntry x new n next = (g : List Step) (width : ℕ) → StandsIn new.steps.items g → Marks (code_at x) g x.function.locals width ((code_at x).saves_at_entry x.function.id) n next

abbrev pub AddsFunction : InFunction → Builder → ℕ → Type 0
AddsFunction x new n = (g : List Step) (width : ℕ) → new.registers ≤ width → StandsIn new.steps.items g → IsGraphOf (code_in x) g n width x.function

abbrev pub AddsStep : InFunction → Builder → (n next : ℕ) → Option Item → Type 0
AddsStep x new n next o = (g : List Step) (width : ℕ) → new.registers ≤ width → StandsIn new.steps.items g → RunStep (code_in x) g x.function.locals width n next o

abbrev pub AddsTurn : InItem → Builder → (t begin next : ℕ) → Type 0
AddsTurn x new t begin next = (g : List Step) (width : ℕ) → new.registers ≤ width → StandsIn new.steps.items g → Turns (code_at x) g x.function.locals width t begin next x.item

abbrev pub AddsLoop : InFunction → Builder → (t begin next : ℕ) → Item → Stmt → Option Item → Type 0
AddsLoop x new t begin next c body o = (g : List Step) (width : ℕ) → new.registers ≤ width → StandsIn new.steps.items g → RunLoop (code_in x) g x.function.locals width t begin next c body o

abbrev pub AddsRuns : InFunction → Builder → ℕ → Ways → Stmt → Type 0
AddsRuns x new n w s = (g : List Step) (width : ℕ) → new.registers ≤ width → StandsIn new.steps.items g → Runs (code_in x) g x.function.locals width w.in_loop n w.next.0 w.leave.0 w.again.0 s

abbrev pub AddsElse : InFunction → Builder → ℕ → Ways → Option Stmt → Type 0
AddsElse x new n w o = (g : List Step) (width : ℕ) → new.registers ≤ width → StandsIn new.steps.items g → RunElse (code_in x) g x.function.locals width w.in_loop n w.next.0 w.leave.0 w.again.0 o

abbrev pub AddsAll : InFunction → Builder → ℕ → Ways → List Stmt → Type 0
AddsAll x new n w ss = (g : List Step) (width : ℕ) → new.registers ≤ width → StandsIn new.steps.items g → RunAll (code_in x) g x.function.locals width w.in_loop n w.next.0 w.leave.0 w.again.0 ss

-- nodes where control goes on are there
abbrev pub AreWithin : ℕ → Ways → Type 0
AreWithin size w = (w.next.0 < size) × (w.leave.0 < size) × (w.again.0 < size)

-- each site of some items has a node
pub record HaveSites (x : InFunction) (g : List Step) (is : List Item) : Type 0 where
  pub each : (i : Item) → Contains is i → HasSites g ((code_in x).first_site i.id) ((code_in x).first_site i.id + act_sites i.act)

-- ---- turns

abbrev pub open_turn : Item → Step
open_turn i = record { node = record { item = i.id; instr = instr.Turn }; links = links.Nowhere }

abbrev pub closed_turn : Item → NodeId → Step
closed_turn i m = record { node = record { item = i.id; instr = instr.Turn }; links = links.One m }

-- a graph in which the turn t, which was open, has its link
pub record Closes (x : InFunction) (t : ℕ) (old new : Builder) : Type 0 where
  pub stands : (g : List Step) → StandsIn new.steps.items g → StandsIn old.steps.items g
  pub registers : old.registers ≤ new.registers
  pub narrow : old.registers ≤ 256 → new.registers ≤ 256
  pub longer : length old.steps.items ≤ length new.steps.items
  pub kept : (n : ℕ) (at : Step) → (n ≡ t → ⊥) → slice_get old.steps.items n ≡ Some at → slice_get new.steps.items n ≡ Some at
  pub pending : (n : ℕ) (at : Step) → slice_get new.steps.items n ≡ Some at → is_pending at ≡ true → (n ≡ t → ⊥) × (slice_get old.steps.items n ≡ Some at)
  pub marked : AllMarked x old.steps.items → AllMarked x new.steps.items
  pub drawn : AllDrawn old.steps.items → AllDrawn new.steps.items

-- code of the statements from number k on, so far
pub record RunsFrom (x : InFunction) (old new : Builder) (n : ℕ) (w : Ways) (k : ℕ) (ss : List Stmt) : Type 0 where
  pub adds : AddsAll x new n w (drop k ss)
  pub grows : Grows x old new
  pub entry : n < length new.steps.items
  pub sites : HaveSites x new.steps.items (items_in_all (drop k ss))
