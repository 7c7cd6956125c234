-- A thread that a create makes begins with a function that is named in a create.
use Rattle.std.proofs.Common.{◌≡◌, [], ◌∷◌, refl, sym, ap, ◌∙◌, subst, inl, inr}
use Rattle.std.specs.Prelude.{Contains}
use Rattle.ca_tree.specs.declared.numbers.FunId.{FunId}
use Rattle.ca_model.specs.declared.values.Value.{Value}
use Rattle.ca_model.specs.declared.tree.Function.{Function}
use Rattle.ca_model.specs.Asks.{Creates, Got, Is, Wants, No_result}
use Rattle.ca_model.specs.Items.{Done}
use Rattle.ca_model.specs.Laws.{OnWants}
use Rattle.ca_model.specs.Paths as paths
use Rattle.ca_model.specs.Paths.{BeginsThreads}
use Rattle.ca_model.specs.Begun.{InProgress}
use Rattle.ca_model.specs.Codes.{Typed}
use Rattle.ca_model.specs.WellFormed.{IsWellFormed}
use Rattle.ca_model.specs.SourceRuns.{no_plan, rules_of}
use Rattle.ca_model.specs.Frames.{Code, Frame, begun, wanted}
use Rattle.ca_model.specs.Private.{Thread, last_want}
use Rattle.ca_model.proofs.CreateWants.{MakesOf, creates_only}
use Rattle.ca_erasure.proofs.KnownItems.{heads_known}
use Rattle.ca_pruned.specs.Points.{bare}
use Rattle.ca_pruned.proofs.Asking.{Asked, By_item, By_turn, asked}
use Rattle.ca_pruned.proofs.Runs.{AreIn}
use Rattle.ca_erasure.proofs.Standing.{last_keeps}

module _ (p : Typed) (wf : IsWellFormed p) where
  abbrev code : Code
  code = bare p

  -- a number of functions with which threads begin
  abbrev pub IsStarter : FunId → Type 0
  IsStarter f = (g : Function) → Contains p.functions g → g.id ≡ f → BeginsThreads p g

  pub main_starts : IsStarter p.main
  main_starts g has same = inl same

  by_asked : (f : Frame) (g : FunId) (x : Value) → InProgress code f → Asked p f.left f.locals f.answers (Creates g x) → IsStarter g
  by_asked f g x progress (By_item i ys head run more) h has same =
      inr (i, heads_known p wf no_plan f progress i head, subst (paths.Creates i.act) (sym same) (subst (OnWants (MakesOf i.act)) run (creates_only i.act i.id f.locals (code.first_site i.id) ys)))
  by_asked f g x progress (By_turn c head e) h has same = absurd cc

  by_got : (t : Got Done) (f : Frame) (fs : Thread) (g : FunId) (x : Value) → InProgress code f → begun code f ≡ t → last_want (wanted t) fs ≡ Creates g x → IsStarter g
  by_got (Is d rest) f fs g x progress at h = absurd cc
  by_got No_result f fs g x progress at h = absurd cc
  by_got (Wants w) f fs g x progress at h = by_asked f g x progress (asked p f.left f.locals f.answers (Creates g x) (at ∙ ap Wants (last_keeps (λ v. v ≡ Creates g x) (λ e. absurd cc) w fs h)) (λ e. absurd cc))

  pub made_starts : (fs : Thread) (g : FunId) (x : Value) → AreIn p wf fs → (rules_of p).want fs ≡ Creates g x → IsStarter g
  made_starts [] g x all h = absurd cc
  made_starts (f ∷ fs) g x all h = by_got (begun code f) f fs g x all.0 refl h
