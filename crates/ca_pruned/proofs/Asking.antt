-- What a frame of a source wants, and by which item.
use Rattle.std.proofs.Common.{◌≡◌, List, [], ◌∷◌, ◌++◌, Option, refl, sym, ap, ◌∙◌}
use Rattle.ca_model.specs.declared.values.Value.{Value}
use Rattle.ca_model.specs.declared.tree.Item.{Item}
use Rattle.ca_model.specs.declared.tree.Stmt.{Stmt, out-Stmt}
use Rattle.ca_model.specs.declared.tree.Stmt.TheOpen.{Stmt-F}
use Rattle.ca_model.specs.Asks.{Want, Saves, Turns, Ended, Got, Is, Wants, No_result}
use Rattle.ca_model.specs.Items.{Done}
use Rattle.ca_model.specs.Begun.{opening_item}
use Rattle.ca_model.specs.Follows.{first_head}
use Rattle.ca_model.specs.Codes.{Typed}
use Rattle.ca_model.specs.Frames.{Code, Left, Enter, Begin, After, Run, Loop, Next, Leave, Frame, item_run, stmt_run, first_run, begun, wanted}
use Rattle.ca_model.specs.Private.{Thread, last_want, stand}
use Rattle.ca_erasure.proofs.Standing.{by_own, last_keeps}
use Rattle.ca_pruned.specs.Points.{bare}

module _ (p : Typed) where
  abbrev code : Code
  code = bare p

  -- without a plan nothing is wanted but by an item, or at a loop's turn
  pub data Asked (ls : List Left) (l xs : List Value) (w : Want) : Type 0 where
    By_item : (i : Item) (ys : List Value) → first_head ls ≡ i ∷ [] → item_run code i l ys ≡ Wants w → ((more : List Value) → first_run code ls l (xs ++ more) ≡ item_run code i l (ys ++ more)) → Asked ls l xs w
    By_turn : (c : Item) → first_head ls ≡ c ∷ [] → w ≡ Turns → Asked ls l xs w

  stmt_asked : (x : Stmt-F Stmt) (ls : List Left) (l xs : List Value) (w : Want) → first_head ls ≡ opening_item x → ((ys : List Value) → first_run code ls l ys ≡ stmt_run code x l ys) → stmt_run code x l xs ≡ Wants w → Asked ls l xs w
  stmt_asked (Stmt-F.Item i) ls l xs w at run h = By_item i xs at h (λ more. run (xs ++ more))
  stmt_asked (Stmt-F.If c a b) ls l xs w at run h = By_item c xs at h (λ more. run (xs ++ more))
  stmt_asked _ ls l xs w at run h = absurd cc

  want_of : Got Done → Want
  want_of (Wants w) = w
  want_of _ = Ended

  turn_asked : (c : Item) (body : Stmt) (step : Option Item) (ls : List Left) (l xs : List Value) (w : Want) → first_run code (Loop c body step ∷ ls) l xs ≡ Wants w → Asked (Loop c body step ∷ ls) l xs w
  unfolding want_of
  turn_asked c body step ls l [] w h = By_turn c refl (sym (ap want_of h))
  turn_asked c body step ls l (x ∷ xs) w h = By_item c xs refl h (λ more. refl)

  pub asked : (ls : List Left) (l xs : List Value) (w : Want) → first_run code ls l xs ≡ Wants w → (w ≡ Ended → ⊥) → Asked ls l xs w
  unfolding want_of
  asked [] l xs w h none = absurd (none (sym (ap want_of h)))
  asked (Enter f ∷ ls) l xs w h none = absurd cc
  asked (After i ∷ ls) l xs w h none = absurd cc
  asked (Begin i ∷ ls) l xs w h none = By_item i xs refl h (λ more. refl)
  asked (Run s ∷ ls) l xs w h none = stmt_asked (out-Stmt s) (Run s ∷ ls) l xs w refl (λ ys. refl) h
  asked (Loop c body step ∷ ls) l xs w h none = turn_asked c body step ls l xs w h
  asked (Next ∷ ls) l xs w h none = absurd cc
  asked (Leave ∷ ls) l xs w h none = absurd cc

  by_got : (g : Got Done) (f : Frame) (fs : Thread) → begun code f ≡ g → last_want (wanted g) fs ≡ Saves → ⊥
  by_got (Is d rest) f fs is h = absurd cc
  by_got No_result f fs is h = absurd cc
  by_got (Wants w) f fs is h =
      let save : w ≡ Saves = last_keeps (λ v. v ≡ Saves) (λ e. absurd cc) w fs h in
      by_asked (asked f.left f.locals f.answers Saves (is ∙ ap Wants save) (λ e. absurd cc))
    where
      by_asked : Asked f.left f.locals f.answers Saves → ⊥
      by_asked (By_item i ys head run more) = by_own code i f.locals ys Saves run
      by_asked (By_turn c head e) = absurd cc

  -- a source never wants a save
  pub never_saves : (x : Thread) → (stand code x).want ≡ Saves → ⊥
  never_saves [] h = absurd cc
  never_saves (f ∷ fs) h = by_got (begun code f) f fs refl h
