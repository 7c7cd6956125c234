-- A thread of a run that stands at a create names a function that is named in a create of the source.
use Rattle.std.proofs.Common.{◌≡◌, ℕ, ◌<◌, List, [], ◌∷◌, length, Some, refl, sym, ap, subst, ◌∙◌}
use Rattle.std.specs.Prelude.{Contains, slice_get}
use Rattle.ca_tree.specs.declared.numbers.FunId.{FunId}
use Rattle.ca_model.specs.declared.values.Value.{Value}
use Rattle.ca_model.specs.declared.tree.Item.{Item}
use Rattle.ca_model.specs.Asks.{Want, Creates, Got, Is, Wants, No_result}
use Rattle.ca_model.specs.Items.{Done}
use Rattle.ca_model.specs.Laws.{OnWants}
use Rattle.ca_model.specs.Paths as paths
use Rattle.ca_model.specs.Sites.{all_items}
use Rattle.ca_model.specs.Begun.{InProgress}
use Rattle.ca_model.specs.WellFormed.{IsWellFormed}
use Rattle.ca_model.specs.Frames.{Frame, begun, wanted}
use Rattle.ca_model.specs.Private as alone
use Rattle.ca_model.specs.Private.{last_want, stand}
use Rattle.ca_model.specs.Hardened.{Hardened, hardened}
use Rattle.ca_model.specs.Machine.{State}
use Rattle.ca_model.proofs.CreateWants.{MakesOf, creates_only}
use Rattle.ca_model.proofs.KnownWants.{IsKnown, IsPlaced, wants_known}
use Rattle.ca_model.proofs.FramesInPlace.{AreInPlace}
use Rattle.ca_model.proofs.FramesOfRuns.{kept_in_progress}
use Rattle.ca_model.proofs.PlacedRuns.{kept_hardened}
use Rattle.ca_erasure.proofs.KnownItems.{heads_known}
use Rattle.ca_erasure.proofs.Standing.{Wanting, Of_item, Of_turn, Of_save_after, Of_save_entry, Of_end, wanting, last_keeps}
use Rattle.ca_flow.specs.Lowerings.{Lowering, rules_of}
use Rattle.ca_shared.specs.Histories.{History}
use Rattle.ca_thread.specs.Privates.{Thread, IsStart}
use Rattle.ca_machine.specs.Machines.{StandAs, CanCreate}
use Rattle.ca_machine.proofs.Entering.{threaded}

module _ (l : Lowering) (wf : IsWellFormed l.source) where
  abbrev Named : FunId → Type 0
  Named g = (c : Item) × Contains (all_items l.source.functions) c × paths.Creates c.act g

  by_wanting : (f : Frame) (g : FunId) (x : Value) → InProgress (rules_of l) f → Wanting (rules_of l) f.left f.locals f.answers (Creates g x) → Named g
  by_wanting f g x progress (Of_item i ys head run more) =
      (i, heads_known l.source wf l.plan f progress i head, subst (OnWants (MakesOf i.act)) run (creates_only i.act i.id f.locals ((rules_of l).first_site i.id) ys))
  by_wanting f g x progress (Of_turn c head e) = absurd cc
  by_wanting f g x progress (Of_save_after i ms e none w) = absurd cc
  by_wanting f g x progress (Of_save_entry h ms e none w) = absurd cc
  by_wanting f g x progress (Of_end none w) = absurd cc

  last_is : (w : Want) (fs : alone.Thread) (g : FunId) (x : Value) → last_want w fs ≡ Creates g x → w ≡ Creates g x
  last_is w fs g x h = last_keeps (λ v. v ≡ Creates g x) (λ e. absurd cc) w fs h

  by_got : (t : Got Done) (f : Frame) (fs : alone.Thread) (g : FunId) (x : Value) → InProgress (rules_of l) f → begun (rules_of l) f ≡ t → last_want (wanted t) fs ≡ Creates g x → Named g
  by_got (Is d rest) f fs g x progress at h = absurd cc
  by_got No_result f fs g x progress at h = absurd cc
  by_got (Wants w) f fs g x progress at h = by_wanting f g x progress (wanting (rules_of l) f.left f.locals f.answers (Creates g x) (at ∙ ap Wants (last_is w fs g x h)))

  frames_named : (fs : alone.Thread) (g : FunId) (x : Value) → AreInPlace (rules_of l) (InProgress (rules_of l)) fs → AreInPlace (rules_of l) (IsPlaced l.source (rules_of l)) fs → (stand (rules_of l) fs).want ≡ Creates g x → (g.0 < length l.source.functions) × Named g
  frames_named [] g x all placed h = absurd cc
  frames_named (f ∷ fs) g x all placed h = (
    subst (IsKnown l.source) (last_is (wanted (begun (rules_of l) f)) fs g x h) (wants_known l.source (rules_of l) f placed.0),
    by_got (begun (rules_of l) f) f fs g x all.0 refl h,
  )

  -- so each thread of a machine's parts can create
  pub can_create : (shared : History) (ps : List Thread) (s : State Hardened) (t : ℕ) (p : Thread) → StandAs l shared ps s → slice_get ps t ≡ Some p → CanCreate p
  can_create shared ps s t p st at =
      let x = threaded l shared ps s t p st at in
      let h = x.0 in
      let progress = ((kept_in_progress l.source l.plan shared.trace s st.run).fine t h x.1).0 in
      let placed = ((kept_hardened l.source wf l.plan shared.trace s st.run).fine t h x.1).0 in
      record {
        state = h;
        at = x.2.stands;
        named = λ f y n want other.
            let both = frames_named h.frames f y progress placed (subst (λ c. (hardened (rules_of c)).want h ≡ Creates f y) x.2.code want) in
            subst (λ (c : Lowering). IsStart c.source n f) (sym x.2.code) (record { known = both.0; first = λ e. absurd (other e); other = λ e. both.1 });
      }
