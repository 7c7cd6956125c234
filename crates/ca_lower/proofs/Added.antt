-- What code that is added is right for.
use Rattle.std.proofs.Common.{rules, ◌≡◌, ℕ, ◌+◌, ◌<◌, ◌≤◌, Bool, true, false, List, Option, Some, None, refl, sym, ap, ◌∙◌, subst, arith}
use Rattle.std.specs.Prelude.{◌&&◌, ℤ, pos, take, nat_lt}
use Rattle.ca_tree.specs.declared.numbers.VarId.{VarId}
use Rattle.ca_model.specs.declared.values.Value.{Value}
use Rattle.ca_model.specs.declared.values.Value.TheVariants as value
use Rattle.ca_model.specs.declared.tree.Exp.{Exp, out-Exp, roll-Exp, map-Exp, fold_out-Exp}
use Rattle.ca_model.specs.declared.tree.Exp.TheOpen.{Exp-F}
use Rattle.ca_model.specs.declared.tree.Exp.TheVariants as e
use Rattle.ca_model.specs.declared.tree.Place.{Place, out-Place, fold_out-Place}
use Rattle.ca_model.specs.Asks.{Is}
use Rattle.ca_model.specs.Eval.{part, spot, eval, local, site_at}
use Rattle.ca_model.specs.Frames.{Code}
use Rattle.ca_model.proofs.Induction.{exp_ind, part_out}
use Rattle.ca_tree.specs.declared.numbers.ItemId.{ItemId}
use Rattle.ca_flow.specs.declared.instr.Step.{Step}
use Rattle.ca_flow.specs.declared.instr.Reg.{Reg}
use Rattle.ca_flow.specs.declared.instr.NodeId.{NodeId}
use Rattle.ca_flow.specs.declared.instr.Instr.TheVariants as instr
use Rattle.ca_flow.specs.declared.instr.Links.TheVariants as links
use Rattle.ca_lower.specs.Lowered.{Finds, Sets, Decides, Aims, home, home_of}
use Rattle.ca_model.specs.Bounds.{among, exp_among, place_among}
use Rattle.ca_lower.specs.Building.{among_place, index_home}
use Rattle.ca_lower.proofs.Rows.{local_take}
use Rattle.ca_model.specs.declared.tree.BinOp.{BinOp}
use Rattle.ca_model.specs.declared.tree.LoadKind.{LoadKind}
use Rattle.ca_tree.specs.declared.numbers.GlobalId.{GlobalId}
use Rattle.ca_flow.specs.declared.instr.AtSite.{AtSite}
use Rattle.ca_flow.specs.Instructions.{site_of}
use Rattle.ca_lower.proofs.CodeOfParts.{At, finds_local, finds_set, sets_given, sets_negate, sets_not, sets_binary, sets_load, decides_and, decides_or, decides_branch, aims_plain, aims_indexed, spot_out, sets_address, sets_flag, and_is_flag, or_is_flag}

pub num_added : (code : Code) (g : List Step) (low width l n s to : ℕ) (m : NodeId) (z : Exp) (i : ItemId) (x : Value) (k : ℤ) → z ≡ e.Num k → x ≡ value.Num k → to < width
    → At g n (record { item = i; instr = instr.Put (record { 0 = to }) x }) (links.One m) → Sets code g low width l n m.0 to z s
num_added code g low width l n s to m z i x k is same tw at =
    sets_given code g low width l n s (record { 0 = to }) m z (λ r. x) (record { item = i; instr = instr.Put (record { 0 = to }) x }) tw
    (λ r xs. ap (λ p. p.run (take low r) s xs) (part_out z (Exp-F.Num k) (ap out-Exp is ∙ e.outs-Num k)) ∙ ap (λ y. Is y xs) (sym same)) at (λ r xs. refl)

pub negate_added : (code : Code) (g : List Step) (low width l n j s to : ℕ) (m : NodeId) (z x : Exp) (i : ItemId) (from : Reg) (h : ℕ) → from.0 ≡ h → z ≡ e.Negate x → to < width → Finds code g low width l n j h x s
    → At g j (record { item = i; instr = instr.Negate (record { 0 = to }) from }) (links.One m) → Sets code g low width l n m.0 to z s
negate_added code g low width l n j s to m z x i from h same is tw finds at =
    sets_negate code g low width l n j s from.0 (record { 0 = to }) m z x (record { item = i; instr = instr.Negate (record { 0 = to }) from }) is tw (subst (λ a. Finds code g low width l n j a x s) (sym same) finds) at refl

within_local : (low : ℕ) (z : Exp) (i : VarId) → out-Exp z ≡ Exp-F.Local i → among low z ≡ nat_lt i.0 low
within_local low z i is = fold_out-Exp Bool Bool (exp_among low) place_among z ∙ ap (λ y. exp_among low (map-Exp Exp Place Bool Bool (among low) (among_place low) y)) is

local_below : (low : ℕ) (z : Exp) (i : VarId) → out-Exp z ≡ Exp-F.Local i → among low z ≡ true → i.0 < low
local_below low z i is within = let h : nat_lt i.0 low ≡ true = sym (within_local low z i is) ∙ within in search (rules, h)

pub local_within : (low : ℕ) (z : Exp) (i : VarId) → z ≡ e.Local i → among low z ≡ true → i.0 < low
local_within low z i is within = local_below low z i (ap out-Exp is ∙ e.outs-Local i) within

-- a home is a local, or the first free register
each_within : (low l : ℕ) (z : Exp) (y : Exp-F Exp Place) → out-Exp z ≡ y → low ≤ l → among low z ≡ true → home_of y l ≤ l
each_within low l z (Exp-F.Local x) is lo within = let h : x.0 < low = local_below low z x is within in omega (arith, h, lo)
each_within low l z (Exp-F.Num n) is lo within = omega arith
each_within low l z Exp-F.Null is lo within = omega arith
each_within low l z (Exp-F.Global x) is lo within = omega arith
each_within low l z (Exp-F.Load p k) is lo within = omega arith
each_within low l z (Exp-F.AddressOf p) is lo within = omega arith
each_within low l z (Exp-F.Negate a) is lo within = omega arith
each_within low l z (Exp-F.Not a) is lo within = omega arith
each_within low l z (Exp-F.Binary o a b) is lo within = omega arith
each_within low l z (Exp-F.And a b) is lo within = omega arith
each_within low l z (Exp-F.Or a b) is lo within = omega arith

pub home_within : (low l : ℕ) (z : Exp) → low ≤ l → among low z ≡ true → home z l ≤ l
home_within low l z lo within = each_within low l z (out-Exp z) refl lo within

pub local_here : (code : Code) (g : List Step) (low width l n s : ℕ) (z : Exp) (i : VarId) → z ≡ e.Local i → among low z ≡ true → Finds code g low width l n n (home z l) z s
local_here code g low width l n s z i is within =
    subst (λ a. Finds code g low width l n n a z s) (sym (ap (λ y. home_of y l) (ap out-Exp is ∙ e.outs-Local i))) (finds_local code g low width l n s z i is (local_within low z i is within))

IsElse : ℕ → Exp → Type 0
IsElse l z = ((i : VarId) → z ≡ e.Local i → ⊥) → home z l ≡ l

here_as : (l : ℕ) (z z' : Exp) (y : Exp-F Exp Place) → z ≡ z' → out-Exp z' ≡ y → home_of y l ≡ l → home z l ≡ l
here_as l z z' y is outs h = ap (λ x. home x l) is ∙ (ap (λ y. home_of y l) outs ∙ h)

-- all but a local stand in the first free register
each_else : (l : ℕ) (x : Exp-F Exp Place) → ((i : VarId) → roll-Exp x ≡ e.Local i → ⊥) → home (roll-Exp x) l ≡ l
each_else l (Exp-F.Local x) h = absurd (h x (e.rolls-Local x))
each_else l (Exp-F.Num n) h = here_as l _ _ _ (e.rolls-Num n) (e.outs-Num n) refl
each_else l Exp-F.Null h = here_as l _ _ _ e.rolls-Null e.outs-Null refl
each_else l (Exp-F.Global x) h = here_as l _ _ _ (e.rolls-Global x) (e.outs-Global x) refl
each_else l (Exp-F.Load p k) h = here_as l _ _ _ (e.rolls-Load p k) (e.outs-Load p k) refl
each_else l (Exp-F.AddressOf p) h = here_as l _ _ _ (e.rolls-AddressOf p) (e.outs-AddressOf p) refl
each_else l (Exp-F.Negate a) h = here_as l _ _ _ (e.rolls-Negate a) (e.outs-Negate a) refl
each_else l (Exp-F.Not a) h = here_as l _ _ _ (e.rolls-Not a) (e.outs-Not a) refl
each_else l (Exp-F.Binary o a b) h = here_as l _ _ _ (e.rolls-Binary o a b) (e.outs-Binary o a b) refl
each_else l (Exp-F.And a b) h = here_as l _ _ _ (e.rolls-And a b) (e.outs-And a b) refl
each_else l (Exp-F.Or a b) h = here_as l _ _ _ (e.rolls-Or a b) (e.outs-Or a b) refl

pub other_home : (l : ℕ) (z : Exp) → ((i : VarId) → z ≡ e.Local i → ⊥) → home z l ≡ l
unfolding IsElse
other_home l z = exp_ind (IsElse l) (λ p. Unit {0}) (λ x held. each_else l x) (λ p held. tt) z

pub other_here : (code : Code) (g : List Step) (low width l n m s : ℕ) (z : Exp) → ((i : VarId) → z ≡ e.Local i → ⊥) → l < width → Sets code g low width l n m l z s → Finds code g low width l n m (home z l) z s
other_here code g low width l n m s z other lt h = subst (λ a. Finds code g low width l n m a z s) (sym (other_home l z other)) (finds_set code g low width l n m s z lt h)

-- a value that is put, and a copy of a local
pub put_added : (code : Code) (g : List Step) (low width l n s to : ℕ) (m : NodeId) (z : Exp) (i : ItemId) (x : Value) → ((t xs : List Value) → eval t z s xs ≡ Is x xs) → to < width
    → At g n (record { item = i; instr = instr.Put (record { 0 = to }) x }) (links.One m) → Sets code g low width l n m.0 to z s
put_added code g low width l n s to m z i x is tw at =
    sets_given code g low width l n s (record { 0 = to }) m z (λ r. x) (record { item = i; instr = instr.Put (record { 0 = to }) x }) tw (λ r xs. is (take low r) xs) at (λ r xs. refl)

pub copy_added : (code : Code) (g : List Step) (low width l n s to : ℕ) (m : NodeId) (z : Exp) (i : ItemId) (x : VarId) → z ≡ e.Local x → among low z ≡ true → to < width
    → At g n (record { item = i; instr = instr.Copy (record { 0 = to }) (record { 0 = x.0 }) }) (links.One m) → Sets code g low width l n m.0 to z s
copy_added code g low width l n s to m z i x is within tw at =
    sets_given code g low width l n s (record { 0 = to }) m z (λ r. local r x.0) (record { item = i; instr = instr.Copy (record { 0 = to }) (record { 0 = x.0 }) }) tw
    (λ r xs. ap (λ p. p.run (take low r) s xs) (part_out z (Exp-F.Local x) (ap out-Exp is ∙ e.outs-Local x)) ∙ ap (λ y. Is y xs) (local_take low x.0 r (local_within low z x is within))) at (λ r xs. refl)

pub not_added : (code : Code) (g : List Step) (low width l n j s to : ℕ) (m : NodeId) (z x : Exp) (i : ItemId) (from : Reg) (h : ℕ) → from.0 ≡ h → z ≡ e.Not x → to < width → Finds code g low width l n j h x s
    → At g j (record { item = i; instr = instr.Not (record { 0 = to }) from }) (links.One m) → Sets code g low width l n m.0 to z s
not_added code g low width l n j s to m z x i from h same is tw finds at =
    sets_not code g low width l n j s from.0 (record { 0 = to }) m z x (record { item = i; instr = instr.Not (record { 0 = to }) from }) is tw (subst (λ a. Finds code g low width l n j a x s) (sym same) finds) at refl

pub binary_added : (code : Code) (g : List Step) (low width l n j i s s' to : ℕ) (m : NodeId) (z x y : Exp) (o : BinOp) (item : ItemId) (a b : Reg) → a.0 ≡ home x l → b.0 ≡ home y (l + 1) → z ≡ e.Binary o x y → low ≤ l
    → among low x ≡ true → to < width → s' ≡ s + (part x).sites
    → Finds code g low width l n j (home x l) x s → Finds code g low width (l + 1) j i (home y (l + 1)) y s'
    → At g i (record { item = item; instr = instr.Binary (record { 0 = to }) o a b }) (links.One m) → Sets code g low width l n m.0 to z s
binary_added code g low width l n j i s s' to m z x y o item a b sa sb is lo within tw sites left right at =
    sets_binary code g low width l n j i s a.0 b.0 (record { 0 = to }) m z x y o (record { item = item; instr = instr.Binary (record { 0 = to }) o a b }) is lo tw
    (subst (λ k. k ≤ l) (sym sa) (home_within low l x lo within))
    (subst (λ k. Finds code g low width l n j k x s) (sym sa) left)
    (subst (λ k. Finds code g low width (l + 1) j i k y (s + (part x).sites)) (sym sb) (subst (λ k. Finds code g low width (l + 1) j i (home y (l + 1)) y k) sites right))
    at refl

pub null_added : (code : Code) (g : List Step) (low width l n s to : ℕ) (m : NodeId) (z : Exp) (i : ItemId) → z ≡ e.Null → to < width
    → At g n (record { item = i; instr = instr.Put (record { 0 = to }) (value.Num (pos 0)) }) (links.One m) → Sets code g low width l n m.0 to z s
null_added code g low width l n s to m z i is tw at =
    put_added code g low width l n s to m z i (value.Num (pos 0)) (λ t xs. ap (λ p. p.run t s xs) (part_out z Exp-F.Null (ap out-Exp is ∙ e.outs-Null))) tw at

pub global_added : (code : Code) (g : List Step) (low width l n s to : ℕ) (m : NodeId) (z : Exp) (i : ItemId) (k : GlobalId) → z ≡ e.Global k → to < width
    → At g n (record { item = i; instr = instr.Put (record { 0 = to }) (value.Addr (record { block = k.0; offset = pos 0 })) }) (links.One m) → Sets code g low width l n m.0 to z s
global_added code g low width l n s to m z i k is tw at =
    put_added code g low width l n s to m z i (value.Addr (record { block = k.0; offset = pos 0 })) (λ t xs. ap (λ p. p.run t s xs) (part_out z (Exp-F.Global k) (ap out-Exp is ∙ e.outs-Global k))) tw at

pub load_added : (code : Code) (g : List Step) (low width l n j s : ℕ) (to s' : ℕ) (m : NodeId) (z : Exp) (p : Place) (kind : LoadKind) (i : ItemId) (base : Reg) (index : Option (Reg × ℕ)) (at' : Option AtSite) → z ≡ e.Load p kind → to < width
    → base.0 ≡ home (out-Place p).base l → index ≡ index_home (out-Place p).index l → s' ≡ s + (spot p).sites → site_of at' ≡ site_at (out-Place p).through s'
    → Aims code g low width l n j (record { 0 = home (out-Place p).base l }) (index_home (out-Place p).index l) (out-Place p).field p s
    → At g j (record { item = i; instr = instr.Load (record { 0 = to }) base index (out-Place p).field kind at' }) (links.One m) → Sets code g low width l n m.0 to z s
load_added code g low width l n j s to s' m z p kind i base index at' is tw sb si ss site aims at =
    sets_load code g low width l n j s (record { 0 = to }) base index (out-Place p).field at' m z p kind (record { item = i; instr = instr.Load (record { 0 = to }) base index (out-Place p).field kind at' }) is tw
    (subst (λ x. Aims code g low width l n j base x (out-Place p).field p s) (sym si) (subst (λ b. Aims code g low width l n j (record { 0 = b }) (index_home (out-Place p).index l) (out-Place p).field p s) (sym sb) aims))
    at refl (site ∙ (ap (λ t. site_at t s') (sym (through_is p)) ∙ ap (λ k. site_at (spot p).through k) ss))
  where
    through_is : (p : Place) → (spot p).through ≡ (out-Place p).through
    through_is p = ap (λ d. d.through) (spot_out p)

pub both_and_added : (code : Code) (g : List Step) (low width l n j s one other s' : ℕ) (z x y : Exp) → low ≤ l → z ≡ e.And x y → s' ≡ s + (part x).sites
    → Decides code g low width l n j other x s → Decides code g low width l j one other y s' → Decides code g low width l n one other z s
both_and_added code g low width l n j s one other s' z x y lo is sites left right =
    decides_and code g low width l n j s one other z x y lo is left (subst (λ k. Decides code g low width l j one other y k) sites right)

pub both_or_added : (code : Code) (g : List Step) (low width l n j s one other s' : ℕ) (z x y : Exp) → low ≤ l → z ≡ e.Or x y → s' ≡ s + (part x).sites
    → Decides code g low width l n one j x s → Decides code g low width l j one other y s' → Decides code g low width l n one other z s
both_or_added code g low width l n j s one other s' z x y lo is sites left right =
    decides_or code g low width l n j s one other z x y lo is left (subst (λ k. Decides code g low width l j one other y k) sites right)

pub branch_added : (code : Code) (g : List Step) (low width l n j s : ℕ) (one other : NodeId) (z : Exp) (i : ItemId) (a : Reg) → a.0 ≡ home z l → Finds code g low width l n j (home z l) z s
    → At g j (record { item = i; instr = instr.Branch a }) (links.Two one other) → Decides code g low width l n one.0 other.0 z s
branch_added code g low width l n j s one other z i a same finds at =
    decides_branch code g low width l n j s a.0 one other z (record { item = i; instr = instr.Branch a }) (subst (λ k. Finds code g low width l n j k z s) (sym same) finds) at refl

pub plain_aimed : (code : Code) (g : List Step) (low width l n m s : ℕ) (p : Place) (b : Exp) → (out-Place p).index ≡ None → b ≡ (out-Place p).base → Finds code g low width l n m (home b l) b s
    → Aims code g low width l n m (record { 0 = home (out-Place p).base l }) (index_home (out-Place p).index l) (out-Place p).field p s
plain_aimed code g low width l n m s p b none same finds =
    subst (λ i. Aims code g low width l n m (record { 0 = home (out-Place p).base l }) (index_home i l) (out-Place p).field p s) (sym none)
    (aims_plain code g low width l n m s (home (out-Place p).base l) p none (subst (λ x. Finds code g low width l n m (home x l) x s) same finds))

pub address_added : (code : Code) (g : List Step) (low width l n j s : ℕ) (to : ℕ) (m : NodeId) (z : Exp) (p : Place) (i : ItemId) (base : Reg) (index : Option (Reg × ℕ)) → z ≡ e.AddressOf p → to < width
    → base.0 ≡ home (out-Place p).base l → index ≡ index_home (out-Place p).index l
    → Aims code g low width l n j (record { 0 = home (out-Place p).base l }) (index_home (out-Place p).index l) (out-Place p).field p s
    → At g j (record { item = i; instr = instr.Displace (record { 0 = to }) base index (out-Place p).field }) (links.One m) → Sets code g low width l n m.0 to z s
address_added code g low width l n j s to m z p i base index is tw sb si aims at =
    sets_address code g low width l n j s (record { 0 = to }) base index (out-Place p).field m z p (record { item = i; instr = instr.Displace (record { 0 = to }) base index (out-Place p).field }) is tw
    (subst (λ x. Aims code g low width l n j base x (out-Place p).field p s) (sym si) (subst (λ b. Aims code g low width l n j (record { 0 = b }) (index_home (out-Place p).index l) (out-Place p).field p s) (sym sb) aims))
    at refl

pub indexed_aimed : (code : Code) (g : List Step) (low width l n j m s s' scale : ℕ) (p : Place) (b x y : Exp) → low ≤ l → (out-Place p).index ≡ Some (x, scale) → b ≡ (out-Place p).base → y ≡ x → among low (out-Place p).base ≡ true
    → s' ≡ s + (part b).sites → Finds code g low width l n j (home b l) b s → Finds code g low width (l + 1) j m (home y (l + 1)) y s'
    → Aims code g low width l n m (record { 0 = home (out-Place p).base l }) (index_home (out-Place p).index l) (out-Place p).field p s
indexed_aimed code g low width l n j m s s' scale p b x y lo some same same' within sites left right =
    subst (λ i. Aims code g low width l n m (record { 0 = home (out-Place p).base l }) (index_home i l) (out-Place p).field p s) (sym some)
    (aims_indexed code g low width l n j m s (home (out-Place p).base l) (home x (l + 1)) scale x p lo (home_within low l (out-Place p).base lo within) some
    (subst (λ x. Finds code g low width l n j (home x l) x s) same left)
    (subst (λ z. Finds code g low width (l + 1) j m (home x (l + 1)) x (s + (part z).sites)) same
    (subst (λ z. Finds code g low width (l + 1) j m (home z (l + 1)) z (s + (part b).sites)) same' (subst (λ k. Finds code g low width (l + 1) j m (home y (l + 1)) y k) sites right))))

pub and_added : (code : Code) (g : List Step) (low width l n s to one other : ℕ) (m : NodeId) (z x y : Exp) (i i' : ItemId) → z ≡ e.And x y → to < width → Decides code g low width l n one other z s
    → At g one (record { item = i; instr = instr.Put (record { 0 = to }) (value.Num (pos 1)) }) (links.One m) → At g other (record { item = i'; instr = instr.Put (record { 0 = to }) (value.Num (pos 0)) }) (links.One m) → Sets code g low width l n m.0 to z s
and_added code g low width l n s to one other m z x y i i' is tw decides at at' =
    sets_flag code g low width l n s (record { 0 = to }) one other m z _ _ tw (and_is_flag code g low width z x y s is) decides at refl at' refl

pub or_added : (code : Code) (g : List Step) (low width l n s to one other : ℕ) (m : NodeId) (z x y : Exp) (i i' : ItemId) → z ≡ e.Or x y → to < width → Decides code g low width l n one other z s
    → At g one (record { item = i; instr = instr.Put (record { 0 = to }) (value.Num (pos 1)) }) (links.One m) → At g other (record { item = i'; instr = instr.Put (record { 0 = to }) (value.Num (pos 0)) }) (links.One m) → Sets code g low width l n m.0 to z s
or_added code g low width l n s to one other m z x y i i' is tw decides at at' =
    sets_flag code g low width l n s (record { 0 = to }) one other m z _ _ tw (or_is_flag code g low width z x y s is) decides at refl at' refl

both_first : (a b : Bool) → (a && b) ≡ true → a ≡ true
both_first true b h = refl
both_first false b h = h

-- a first operand is within the locals
pub first_within : (low : ℕ) (z x y : Exp) (o : BinOp) → z ≡ e.Binary o x y → among low z ≡ true → among low x ≡ true
first_within low z x y o is h =
    both_first _ _ (sym (fold_out-Exp Bool Bool (exp_among low) place_among z ∙ ap (λ y. exp_among low (map-Exp Exp Place Bool Bool (among low) (among_place low) y)) (ap out-Exp is ∙ e.outs-Binary o x y)) ∙ h)

pub base_within : (low : ℕ) (p : Place) → among_place low p ≡ true → among low (out-Place p).base ≡ true
base_within low p h = both_first _ _ (sym (fold_out-Place Bool Bool (exp_among low) place_among p) ∙ h)
