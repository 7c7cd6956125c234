-- Entries one after another under a schedule.
use Rattle.std.proofs.Common.{◌≡◌, ℕ, List, [], ◌++◌, refl, sym, ap, subst, ◌∙◌, append_assoc}
use Rattle.std.proofs.lemmas.List.{append-nil}
use Rattle.ca_model.specs.declared.values.Event.{Event}
use Rattle.ca_model.specs.declared.values.Ending.{Ending}
use Rattle.ca_model.specs.Hardened.{Hardened}
use Rattle.ca_model.specs.Machine.{State}
use Rattle.ca_model.specs.Schedules.{Schedule}
use Rattle.ca_machine.specs.Machines.{Traced, Reaches}
use Rattle.ca_machine.specs.Runs.{GoesOn, IsAlong}

module _ (events patience : ℕ) where
  pub along_none : (m : Traced) (c : Schedule) (s : State Hardened) → Reaches m s → IsAlong events patience m m c c s
  along_none m c s run = record { done = []; source = refl; plan = refl; trace = sym (append-nil m.trace); now = s; reached = run; back = λ rest end h. h }

  pub along_more : (m n o : Traced) (c d e : Schedule) (s : State Hardened) → IsAlong events patience m n c d s → ((t : State Hardened) → Reaches n t → IsAlong events patience n o d e t) → IsAlong events patience m o c e s
  along_more m n o c d e s a more =
      let b = more a.now a.reached in
      record {
        done = a.done ++ b.done;
        source = b.source ∙ a.source;
        plan = b.plan ∙ a.plan;
        trace = b.trace ∙ (ap (λ l. l ++ b.done) a.trace ∙ append_assoc m.trace a.done b.done);
        now = b.now;
        reached = b.reached;
        back = λ rest end h. subst (λ l. GoesOn events patience m c s l end) (sym (append_assoc a.done b.done rest)) (a.back (b.done ++ rest) end (b.back rest end h));
      }

  pub same_machine : (m n : Traced) → n.source ≡ m.source → n.plan ≡ m.plan → (rest : List Event) → n.trace ≡ m.trace ++ rest → n ≡ record m { trace = m.trace ++ rest }
  same_machine m n i j rest k = λ x. record { source = i x; plan = j x; trace = k x }

  -- the runner's ending there is its ending from here
  pub along_ended : (m n o : Traced) (c d : Schedule) (s : State Hardened) (end : Ending) → IsAlong events patience m n c d s → ((t : State Hardened) → Reaches n t → (o ≡ n) × GoesOn events patience n d t [] end)
      → (rest : List Event) × (o ≡ record m { trace = m.trace ++ rest }) × GoesOn events patience m c s rest end
  along_ended m n o c d s end a over =
      let b = over a.now a.reached in
      (a.done, b.0 ∙ same_machine m n a.source a.plan a.done a.trace, subst (λ l. GoesOn events patience m c s l end) (append-nil a.done) (a.back [] end b.1))
