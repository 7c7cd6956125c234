-- A fault or retry of a thread is due exactly where it is the entry that comes.
use Rattle.std.proofs.Common.{◌≡◌, ◌<◌, ◌^◌, ℕ, Bool, true, false, Option, Some, None, sym, ap, subst, ◌∙◌, inl, inr, arith}
use Rattle.std.specs.Prelude.{◌↔◌, ◌==◌, IsTrue}
use Rattle.std.proofs.lemmas.Bool.{eqb-true}
use Rattle.ca_model.specs.declared.values.Event.{Event}
use Rattle.ca_model.specs.declared.values.EventAct.{EventAct}
use Rattle.ca_model.specs.declared.values.EventAct.TheVariants as act
use Rattle.ca_model.specs.Frames.{Code}
use Rattle.ca_model.specs.Private.{stand}
use Rattle.ca_model.specs.Shared.{Shared, Allows}
use Rattle.ca_model.specs.Hardened.{Hardened, hardened_advance, HardenedDue}
use Rattle.ca_model.specs.Runner.{IsLeastUnused, IsChosen}
use Rattle.ca_model.specs.ComingEntries.{EndedBelow, entry_of}
use Rattle.ca_machine.specs.Moves.{IsEntry, IsJudged}
use Rattle.ca_model.proofs.Law.{one_of}
use Rattle.ca_model.proofs.MayCome.{decide}
use Rattle.ca_model.proofs.OneEntry.{due_at, due_from, entry_is, if_some}
use Rattle.ca_model.proofs.SameEvents.{equal_acts, same_act, act_self}
use Rattle.ca_flow.specs.Lowerings.{rules_of}
use Rattle.ca_shared.specs.Histories.{History, state}
use Rattle.ca_shared.specs.Legal.{IsWellKept}
use Rattle.ca_thread.specs.Privates.{Thread}

judged_chosen : (g : Shared) (a : EventAct) → IsJudged a → IsChosen g a
judged_chosen g (act.Malloc n x) j = absurd j
judged_chosen g _ j = tt

-- every other one is due
pub others_due : (code : Code) (g : Shared) (t : ℕ) (h : Hardened) (a : EventAct) → (IsJudged a → ⊥) → HardenedDue code g t h a
others_due code g t h (act.Fault k) other = absurd (other tt)
others_due code g t h (act.Retry site gives) other = absurd (other tt)
others_due code g t h _ other = tt

module _ (code : Code) (g : Shared) (t k : ℕ) (h : Hardened) (used : IsLeastUnused g.blocks k) (few : k < 2 ^ 32) (ended : EndedBelow g) (some : 0 < g.threads) where
  pub due_comes : (a : EventAct) (x : Hardened) → IsJudged a → hardened_advance code h a ≡ Some x → Allows g t a → HardenedDue code g t h a → entry_of code g t k h ≡ Some a
  due_comes a x j own ok due = entry_is code g t k h (stand code h.frames).want (stand code h.frames).go used ended a x own ok (due_at code g t h a due) (judged_chosen g a j)

  pub comes_due : (a : EventAct) → entry_of code g t k h ≡ Some a → HardenedDue code g t h a
  comes_due a is = elim (decide code h g t k (stand code h.frames).go used few some (stand code h.frames).want) [
    | inl (b, p) ↦
        let one : entry_of code g t k h ≡ Some b = entry_is code g t k h (stand code h.frames).want (stand code h.frames).go used ended b p.after p.own p.allowed p.due p.chosen in
        subst (HardenedDue code g t h) (one_of b a (sym one ∙ is)) (due_from code g t h b p.due)
    | inr none ↦ let no : None ≡ Some a = sym none ∙ is in absurd cc
  ]

module _ (p : Thread) (shared : History) (h : Hardened) (e : Event) (k : ℕ) (used : IsLeastUnused (state shared).blocks k) (few : k < 2 ^ 32) (kept : IsWellKept (state shared)) (entry : IsEntry (state shared) p h e)
    (o : Option EventAct) (is : o ≡ entry_of (rules_of p.code) (state shared) p.thread k h) where
  abbrev code : Code
  code = rules_of p.code

  both : ((e.thread == p.thread) ≡ true) × (hardened_advance code h e.act ≡ Some entry.own.0)
  both = if_some (e.thread == p.thread) (hardened_advance code h e.act) entry.own.0 entry.own.1

  same_thread : e.thread ≡ p.thread
  same_thread = eqb-true e.thread p.thread both.0

  come : o ≡ entry_of code (state shared) e.thread k h
  come = is ∙ ap (λ t. entry_of code (state shared) t k h) (sym same_thread)

  ended : EndedBelow (state shared)
  ended = kept.made entry.legal.run

  some : 0 < (state shared).threads
  some = let there = entry.legal.there in omega arith

  comes_if_due : IsJudged e.act → HardenedDue code (state shared) e.thread h e.act → o ≡ Some e.act
  comes_if_due j due = come ∙ due_comes code (state shared) e.thread k h used few ended some e.act entry.own.0 j both.1 entry.legal.allowed due

  due_if_comes : o ≡ Some e.act → HardenedDue code (state shared) e.thread h e.act
  due_if_comes here = comes_due code (state shared) e.thread k h used few ended some e.act (sym come ∙ here)

  -- it is due exactly where it is the one that comes
  pub due_one : IsJudged e.act → (a : EventAct) (b : Bool) → o ≡ Some a → b ≡ equal_acts a e.act → IsTrue b ↔ HardenedDue code (state shared) e.thread h e.act
  due_one j a b here eq = (
    (λ t. due_if_comes (here ∙ ap Some (same_act a e.act (sym eq ∙ t)))),
    (λ due. eq ∙ subst (λ x. equal_acts a x ≡ true) (one_of a e.act (sym here ∙ comes_if_due j due)) (act_self a)),
  )

  pub due_none : IsJudged e.act → o ≡ None → IsTrue false ↔ HardenedDue code (state shared) e.thread h e.act
  due_none j none = ((λ t. absurd cc), (λ due. let no : None ≡ Some e.act = sym none ∙ comes_if_due j due in absurd cc))
