-- The effects of entries on the kept parts.
use Rattle.std.proofs.Common.{◌≡◌, ◌<◌, ◌∷◌, ◌++◌, [], ℕ, List, length, Some, None, Bool, true, false, refl, sym, ap, ◌∙◌}
use Rattle.std.specs.Prelude.{if◌then◌else◌}
use Rattle.ca_tree.specs.declared.numbers.SiteId.{SiteId}
use Rattle.ca_model.specs.declared.values.Value.{Value}
use Rattle.ca_model.specs.declared.values.Given.{Given}
use Rattle.ca_model.specs.declared.values.EventAct.{EventAct}
use Rattle.ca_model.specs.declared.values.EventAct.TheVariants as act
use Rattle.ca_model.specs.Shared.{Shared, Blocks, CanFree, effect, ended_phase}
use Rattle.ca_model.specs.ComingEntries.{can_free}
use Rattle.ca_model.proofs.Entries.{can_free_is}
use Rattle.ca_memory.specs.Mutexes.{Mutexes}
use Rattle.ca_memory.specs.GivenBack.{AreBlocksHeld, AreMutexesHeld, blocks_without_all, owners_without_all}
use Rattle.ca_shared.specs.declared.refusals.Illegal.{Illegal}
use Rattle.ca_shared.specs.declared.phase.Phase.{Phase}
use Rattle.ca_shared.specs.declared.threads.Progress.{Progress}
use Rattle.ca_shared.specs.Refusals.{bad, of_act}
use Rattle.ca_shared.specs.Kept.{shared_of, phase_of, begun, flagged}
use Rattle.ca_shared.proofs.Ended.{ended_more, flagged_length, none_more, one_more}
use Rattle.ca_shared.proofs.Things.{all_held, gives_all}

passed : (q : Bool) (why : Illegal) → (if q then None else Some why) ≡ None → q ≡ true
passed true why e = refl
passed false why e = absurd cc

pub frees : (s : Shared) (t : ℕ) (a : EventAct) (x : Value) → of_act s t a ≡ None → a ≡ act.Free x → CanFree s.blocks x
frees s t a x none is = can_free_is s.blocks x (passed (can_free s.blocks x) (bad x) (sym (ap (of_act s t) is) ∙ none))

module _ (b : Blocks) (o : Mutexes) (output : List ℕ) (ps : List Progress) (p : Phase) (t : ℕ) where
  pub given_back : (a : EventAct) (site : SiteId) (gs : List Given) → of_act (shared_of b o output ps p) t a ≡ None → a ≡ act.Retry site gs → AreBlocksHeld b gs × AreMutexesHeld o t gs
  given_back a site gs none is = all_held output ps p t b o gs (sym (ap (of_act (shared_of b o output ps p) t) is) ∙ none)

  pub after_retry : (a : EventAct) (site : SiteId) (gs : List Given) (m : Blocks) (n : Mutexes) → a ≡ act.Retry site gs → m ≡ blocks_without_all b gs → n ≡ owners_without_all o gs
      → shared_of m n output ps p ≡ effect (shared_of b o output ps p) t a
  after_retry a site gs m n is blocks owners =
      (λ i. shared_of (blocks i) (owners i) output ps p) ∙ (sym (gives_all output ps p t b o gs) ∙ sym (ap (effect (shared_of b o output ps p) t) is))

  pub after_create : (a : EventAct) (u place : ℕ) (qs : List Progress) → a ≡ act.Create u → qs ≡ ps ++ begun place ∷ [] → shared_of b o output qs p ≡ effect (shared_of b o output ps p) t a
  after_create a u place qs is so =
      ap (λ l. shared_of b o output l p) so
      ∙ ((λ i. record { blocks = b; mutexes = o.count; owners = o.owners; output = output; threads = one_more ps place i; ended = none_more ps 0 place i; phase = phase_of p })
      ∙ sym (ap (effect (shared_of b o output ps p) t) is))

  pub after_end : (a : EventAct) (qs : List Progress) (q : Phase) → a ≡ act.End → qs ≡ flagged ps t → phase_of q ≡ ended_phase t (phase_of p) → t < length ps → shared_of b o output qs q ≡ effect (shared_of b o output ps p) t a
  after_end a qs q is so ends there =
      ap (λ l. shared_of b o output l q) so
      ∙ ((λ i. record { blocks = b; mutexes = o.count; owners = o.owners; output = output; threads = flagged_length ps t i; ended = ended_more ps t there i; phase = ends i })
      ∙ sym (ap (effect (shared_of b o output ps p) t) is))
