-- The thread that a create makes.
use Rattle.std.proofs.Common.{◌≡◌, ◌<◌, ℕ, Option, Some, refl, subst, inl, inr}
use Rattle.std.specs.Prelude.{◌&&◌, ◌==◌, nat_lt, pos}
use Rattle.std.proofs.lemmas.Bool.{and_parts, ltb-true}
use Rattle.ca_tree.specs.declared.numbers.FunId.{FunId}
use Rattle.ca_tree.specs.declared.numbers.SiteId.{SiteId}
use Rattle.ca_model.specs.declared.values.Value.{Value}
use Rattle.ca_model.specs.declared.values.Value.TheVariants as v
use Rattle.ca_model.specs.declared.values.Event.{Event}
use Rattle.ca_model.specs.declared.values.EventAct.TheVariants as act
use Rattle.ca_model.specs.Asks.{Want, Creates}
use Rattle.ca_model.specs.Frames.{Code}
use Rattle.ca_model.specs.Private.{stand, answer, going_on}
use Rattle.ca_model.specs.Hardened.{Hardened, hardened, hardened_advance, taking}
use Rattle.ca_model.proofs.Creates.{frames_some}
use Rattle.ca_model.proofs.OneEntry.{answer_some, if_some}
use Rattle.ca_wants.specs.Shown.{Shows}
use Rattle.ca_wants.specs.declared.next.Next.{Next}
use Rattle.ca_wants.specs.declared.next.Next.TheVariants as next
use Rattle.ca_flow.specs.Lowerings.{rules_of}
use Rattle.ca_thread.specs.Privates.{Thread}
use Rattle.ca_machine.specs.Moves.{IsOwn}

-- a create is allowed to a thread that wants one, and gives a number other than 0
abbrev Creating : Want → ℕ → Type 0
Creating w u = (f : FunId) × (x : Value) × (w ≡ Creates f x) × (0 < u)

creating : (w : Want) (u : ℕ) (y : Value) → answer w (act.Create u) ≡ Some y → Creating w u
creating (Creates f x) u y e =
    let both = and_parts (nat_lt 0 u) (nat_lt u 64) (if_some (nat_lt 0 u && nat_lt u 64) (Some (v.Num (pos u))) y e).0 in
    (f, x, refl, ltb-true 0 u both.0)
creating _ u y e = absurd cc

pub own_create : (p : Thread) (h : Hardened) (e : Event) (u : ℕ) → IsOwn p h e → e.act ≡ act.Create u → Creating ((hardened (rules_of p.code)).want h) u
own_create p h e u own is =
    let code : Code = rules_of p.code in
    let k : Hardened = own.0 in
    let made : hardened_advance code h (act.Create u) ≡ Some k = subst (λ a. hardened_advance code h a ≡ Some k) is (if_some (e.thread == p.thread) (hardened_advance code h e.act) k own.1).1 in
    let frames = frames_some (going_on (stand code h.frames) (answer (stand code h.frames).want (act.Create u))) (taking code (stand code h.frames).want (act.Create u)) h.saved k made in
    let value = answer_some (stand code h.frames) (answer (stand code h.frames).want (act.Create u)) frames.0 frames.1 in
    creating (stand code h.frames).want u value.0 value.1

-- a thread that wants a create shows it
abbrev pub IsCreate : Next → Type 0
IsCreate (next.Create f x) = Unit {0}
IsCreate _ = ⊥

pub shows_create : (n : Next) (f : FunId) (x : Value) (r : Option SiteId) → Shows n (Creates f x) r → IsCreate n
shows_create (next.Create g y) f x r h = tt
shows_create (next.Read at by kind) f x r h = absurd cc
shows_create (next.Write at by value) f x r h = absurd cc
shows_create (next.Lock m) f x r h = absurd cc
shows_create (next.Malloc cells) f x r h = absurd cc
shows_create (next.Free at) f x r h = absurd cc
shows_create (next.Call g) f x r h = absurd cc
shows_create (next.Fault k) f x r (inl h) = absurd cc
shows_create (next.Fault k) f x r (inr h) = absurd cc
shows_create (next.Retry s) f x r h = absurd cc
shows_create _ f x r h = absurd cc
