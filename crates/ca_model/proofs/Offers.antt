-- An entry that a thread can make is a step; and so 'each moves or waits' says when no step is possible.
use Rattle.std.proofs.Common.{refl, ◌≡◌, ℕ, Some, sym, ap, ◌∙◌, subst, inl, inr}
use Rattle.std.specs.Prelude.{◌↔◌, slice_get}
use Rattle.ca_model.specs.declared.values.EventAct.{EventAct}
use Rattle.ca_model.specs.Shared.{Shared, IsLegal, effect}
use Rattle.ca_model.specs.Machine.{by, Rules, State, threads_after}
use Rattle.ca_model.specs.Opening.{CanStep}
use Rattle.ca_model.specs.Waits.{CanMove, EachMovesOrWaits, AllWait}
use Rattle.ca_model.proofs.Law.{one_of}

-- an entry that the thread can make
pub record Offer {T : Type 0} (r : Rules T) (s : Shared) (t : ℕ) (x : T) : Type 0 where
  pub entry : EventAct
  pub next : T
  pub own : r.advance x entry ≡ Some next
  pub legal : IsLegal s t entry
  pub due : r.Due s t x entry

module _ {T : Type 0} (r : Rules T) where
  pub offer_moves : (s : State T) (t : ℕ) (x : T) → slice_get s.threads t ≡ Some x → Offer r s.shared t x → CanMove r s t
  offer_moves s t x at o =
      let shared = effect s.shared t o.entry in
      let threads = threads_after r s.threads t (r.want x) o.entry o.next in (
        o.entry,
        record { shared = shared; threads = threads },
        record { before = x; after = o.next; stands = at; own = o.own; legal = o.legal; due = o.due; shared = refl {a = shared}; threads = refl {a = threads} },
      )

  module _ (Waits : Shared → T → Type 0) where
    pub none_does_both : (s : State T) (t : ℕ) (x : T) → slice_get s.threads t ≡ Some x
        → ((a : EventAct) (y : T) → r.advance x a ≡ Some y → IsLegal s.shared t a → r.Due s.shared t x a → Waits s.shared x → ⊥)
        → CanMove r s t → Waits s.shared x → ⊥
    none_does_both s t x at never (a, new, st) waits =
        let same = one_of st.before x (sym st.stands ∙ at) in
        never a st.after (ap (λ y. r.advance y a) (sym same) ∙ st.own) st.legal (subst (λ y. r.Due s.shared t y a) same st.due) waits

    pub steps_or_all_wait : (s : State T) → EachMovesOrWaits r Waits s → (CanStep r s → ⊥) ↔ AllWait Waits s
    steps_or_all_wait s each = (
      (λ none t x at on. elim (each t x at on).0 [ inl can ↦ absurd (none (by t can.0, can.1, can.2)) | inr waits ↦ waits ]),
      (λ all can. let st = can.2 in
          (each can.0.thread st.before st.stands st.legal.going).1 (can.0.act, can.1, can.2) (all can.0.thread st.before st.stands st.legal.going)),
    )
