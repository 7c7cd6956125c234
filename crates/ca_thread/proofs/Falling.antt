-- Silent steps go down.
use Rattle.std.proofs.Common.{◌≡◌, ℕ, ◌<◌, Bool, true, false, List, [], length, Some, None, sym, ◌∙◌, subst, inl, inr, arith}
use Rattle.std.specs.Prelude.{◌⊎◌, slice_get}
use Rattle.ca_tree.specs.declared.numbers.ItemId.{ItemId}
use Rattle.ca_model.specs.declared.values.Value.{Value}
use Rattle.ca_model.specs.Asks.{Is}
use Rattle.ca_model.specs.Laws.{Stands}
use Rattle.ca_flow.specs.declared.instr.Instr.{Instr}
use Rattle.ca_flow.specs.declared.instr.Instr.TheVariants as instr
use Rattle.ca_flow.specs.declared.instr.Links.{Links}
use Rattle.ca_flow.specs.declared.instr.Links.TheVariants as links
use Rattle.ca_flow.specs.declared.instr.Step.{Step}
use Rattle.ca_flow.specs.Graphs.{link_count, is_turn, IsLink, AreLinks, IsDrawn}
use Rattle.ca_flow.specs.Instructions.{instr_run, node_run, toward}
use Rattle.ca_thread.specs.Silent.{Silent, stays, goes, StopsAt}

ends_wait : (c : Instr) (i : ItemId) (r : List Value) (s : List Value × Bool) → link_count c ≡ 0 → instr_run c i r [] ≡ Is s [] → ⊥
ends_wait (instr.Return a) i r s h is = absurd (cc)
ends_wait (instr.Branch a) i r s h is = let no : ⊥ = omega (arith, h) in no
ends_wait _ i r s h is = let no : ⊥ = omega (arith, h) in no

turns_wait : (c : Instr) (i : ItemId) (r : List Value) (s : List Value × Bool) → is_turn c ≡ true → instr_run c i r [] ≡ Is s [] → ⊥
turns_wait instr.Turn i r s h is = absurd (cc)
turns_wait _ i r s h is = absurd (cc)

-- only what has no link at all lacks one
pub lacks_link : (size n : ℕ) (c : Instr) (ls : Links) (b : Bool) → AreLinks size c n ls → toward ls b ≡ None → link_count c ≡ 0
lacks_link size n c links.Nowhere b are none = are
lacks_link size n c (links.One m) b are none = absurd (cc)
lacks_link size n c (links.Two one other) true are none = absurd (cc)
lacks_link size n c (links.Two one other) false are none = absurd (cc)

some_number : (m n : ℕ) → Some m ≡ Some n → m ≡ n
some_number m n e = cc

link_to : (size n m : ℕ) (c : Instr) (ls : Links) (b : Bool) → AreLinks size c n ls → toward ls b ≡ Some m → (m < n) ⊎ (is_turn c ≡ true)
link_to size n m c links.Nowhere b are leads = absurd (cc)
link_to size n m c (links.One k) b are leads = at (some_number k.0 m leads) are.1
  where
    at : k.0 ≡ m → IsLink size c n k → (m < n) ⊎ (is_turn c ≡ true)
    at e (inl lt) = inl (subst (λ j. j < n) e lt)
    at e (inr up) = inr up.0
link_to size n m c (links.Two one other) true are leads = at (some_number one.0 m leads) are.1
  where
    at : one.0 ≡ m → IsLink size c n one → (m < n) ⊎ (is_turn c ≡ true)
    at e (inl lt) = inl (subst (λ j. j < n) e lt)
    at e (inr up) = inr up.0
link_to size n m c (links.Two one other) false are leads = at (some_number other.0 m leads) are.2
  where
    at : other.0 ≡ m → IsLink size c n other → (m < n) ⊎ (is_turn c ≡ true)
    at e (inl lt) = inl (subst (λ j. j < n) e lt)
    at e (inr up) = inr up.0

-- an instruction that asks for nothing has a link, and it goes down
pub has_link : (g : List Step) (n : ℕ) (at : Step) (b : Bool) (r : List Value) (s : List Value × Bool) → IsDrawn g → slice_get g n ≡ Some at → node_run at.node r [] ≡ Is s [] → toward at.links b ≡ None → ⊥
has_link g n at b r s drawn is gives none = ends_wait at.node.instr at.node.item r s (lacks_link (length g) n at.node.instr at.links b (drawn n at is) none) gives

goes_down : (c : Instr) (i : ItemId) (r : List Value) (s : List Value × Bool) (m n : ℕ) → instr_run c i r [] ≡ Is s [] → (m < n) ⊎ (is_turn c ≡ true) → m < n
goes_down c i r s m n gives (inl lt) = lt
goes_down c i r s m n gives (inr up) = absurd (turns_wait c i r s up gives)

pub link_falls : (g : List Step) (n m : ℕ) (at : Step) (b : Bool) (r : List Value) (s : List Value × Bool) → IsDrawn g → slice_get g n ≡ Some at → node_run at.node r [] ≡ Is s [] → toward at.links b ≡ Some m → m < n
link_falls g n m at b r s drawn is gives leads = goes_down at.node.instr at.node.item r s m n gives (link_to (length g) n m at.node.instr at.links b (drawn n at is) leads)

pub stops_here : (g : List Step) (n : ℕ) (at : Step) (r : List Value) → slice_get g n ≡ Some at → Stands (node_run at.node r []) → StopsAt g n r
stops_here g n at r is stands at' is' = subst (λ a. Stands (node_run a.node r [])) (some (sym is ∙ is')) stands
  where
    some : {a c : Step} → Some a ≡ Some c → a ≡ c
    some h = cc

pub silent_on : (g : List Step) (n k m : ℕ) (r r' r'' : List Value) → Silent g n r k r' → Silent g k r' m r'' → Silent g n r m r''
silent_on g n k m r r' r'' h stays = h
silent_on g n k m r r' r'' h (goes at more is gives leads) = goes at (silent_on g n k _ r r' _ h more) is gives leads
