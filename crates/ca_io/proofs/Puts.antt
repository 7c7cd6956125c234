-- What puts in a row add.
use Rattle.std.proofs.Common.{◌≡◌, ◌<◌, ℕ, List, [], ◌++◌, length, map, take, drop, get_or, Option, Some, None, Result, Ok, Err, OnOk, OnErr, IsErrOf, refl, sym, ap, ◌∙◌, append_assoc, drop-cons, suc}
use Rattle.std.specs.List.{flat_map}
use Rattle.std.proofs.lemmas.Grind.{flat_map-append}
use Rattle.std.proofs.lemmas.List.{take-append-drop, append-nil}
use Rattle.std.proofs.lemmas.List.Concat.{flat_map-cons}
use Rattle.std.proofs.lemmas.List.Folds.{flat_map-map}
use Rattle.std.specs.Io.KnownBytes.{Appends, Keeps}
use Rattle.ca_io.specs.declared.outside.PutNo.{PutNo}
use Rattle.ca_io.specs.declared.outside.PutNo.TheVariants.{Failed, NoMemory}
use Rattle.ca_io.specs.Outside.{AppendsPart}

pub appends_nothing : (o : Option (List ℕ)) → Appends o o []
appends_nothing None = tt
appends_nothing (Some xs) = sym (append-nil xs)

pub part_whole : (a b : Option (List ℕ)) (text : List ℕ) → Appends a b text → AppendsPart a b text
part_whole a b text p = (text, [], sym (append-nil text), p)

appends_join : (a b c : Option (List ℕ)) (x y : List ℕ) → Appends a b x → Appends b c y → Appends a c (x ++ y)
appends_join None b c x y p q = tt
appends_join (Some xs) None c x y p q = absurd p
appends_join (Some xs) (Some ys) None x y p q = absurd q
appends_join (Some xs) (Some ys) (Some zs) x y p q = q ∙ (ap (λ (t : List ℕ). t ++ y) p ∙ append_assoc xs x y)

appends_kept : (a b c : Option (List ℕ)) (x : List ℕ) → Appends a b x → Keeps b c → Appends a c x
appends_kept None b c x p q = tt
appends_kept (Some xs) None c x p q = absurd p
appends_kept (Some xs) (Some ys) None x p q = absurd q
appends_kept (Some xs) (Some ys) (Some zs) x p q = q ∙ p

-- a part of a text is a part of a longer one
pub part_front : (a b : Option (List ℕ)) (x y : List ℕ) → AppendsPart a b x → AppendsPart a b (x ++ y)
part_front a b x y p = (p.0, p.1 ++ y, ap (λ (t : List ℕ). t ++ y) p.2 ∙ append_assoc p.0 p.1 y, p.3)

-- after a whole text a part of the next, or nothing, was put
part_join : (a b c : Option (List ℕ)) (x y : List ℕ) → Appends a b x → AppendsPart b c y → AppendsPart a c (x ++ y)
part_join a b c x y p q = (x ++ q.0, q.1, ap (λ (t : List ℕ). x ++ t) q.2 ∙ sym (append_assoc x q.0 q.1), appends_join a b c x q.0 p q.3)

part_keep : (a b c : Option (List ℕ)) (x y : List ℕ) → Appends a b x → Keeps b c → AppendsPart a c (x ++ y)
part_keep a b c x y p q = (x, y, refl, appends_kept a b c x p q)

-- a list of texts, split at one of them
flat_at : {X : Type 0} (f : X → List ℕ) (xs : List X) (i : ℕ) (x : X) → i < length xs → x ≡ get_or xs i x → flat_map f xs ≡ flat_map f (take i xs) ++ (f x ++ flat_map f (drop (suc i) xs))
flat_at f xs i x h is =
    let front : flat_map f (drop i xs) ≡ f x ++ flat_map f (drop (suc i) xs) = ap (flat_map f) (drop-cons xs i x h) ∙ (flat_map-cons f (get_or xs i x) (drop (suc i) xs) ∙ ap (λ (y : _). f y ++ flat_map f (drop (suc i) xs)) (sym is)) in
    ap (flat_map f) (sym (take-append-drop i xs)) ∙ (flat_map-append f (take i xs) (drop i xs) ∙ ap (λ (t : List ℕ). flat_map f (take i xs) ++ t) front)

-- in a list of texts, after whole ones a part of the next, or nothing, was put
pub part_after : {X : Type 0} (f : X → List ℕ) (xs : List X) (i : ℕ) (x : X) (a b c : Option (List ℕ)) → i < length xs → x ≡ get_or xs i x → Appends a b (flat_map f (take i xs)) → AppendsPart b c (f x) → AppendsPart a c (flat_map f xs)
part_after f xs i x a b c h is p q =
    let left = flat_map f (drop (suc i) xs) in
    rw (flat_at f xs i x h is) (part_join a b c (flat_map f (take i xs)) (f x ++ left) p (part_front b c (f x) left q))

pub part_kept : {X : Type 0} (f : X → List ℕ) (xs : List X) (i : ℕ) (x : X) (a b c : Option (List ℕ)) → i < length xs → x ≡ get_or xs i x → Appends a b (flat_map f (take i xs)) → Keeps b c → AppendsPart a c (flat_map f xs)
part_kept f xs i x a b c h is p q = rw (flat_at f xs i x h is) (part_keep a b c (flat_map f (take i xs)) (f x ++ flat_map f (drop (suc i) xs)) p q)

-- what one more put after a whole text leaves
pub put_whole : {T : Type 0} (r : Result T PutNo) (a b c : Option (List ℕ)) (x y : List ℕ) → Appends a b x → OnOk r (Appends b c y) → OnOk r (Appends a c (x ++ y))
put_whole (Ok t) a b c x y p whole = appends_join a b c x y p whole
put_whole (Err e) a b c x y p whole = tt

pub put_part : {T : Type 0} (r : Result T PutNo) (a b c : Option (List ℕ)) (x y : List ℕ) → Appends a b x
    → (IsErrOf r Failed → AppendsPart b c y) → (IsErrOf r NoMemory → Keeps b c) → OnErr r (AppendsPart a c (x ++ y))
put_part (Ok t) a b c x y p part kept = tt
put_part (Err Failed) a b c x y p part kept = part_join a b c x y p (part refl)
put_part (Err NoMemory) a b c x y p part kept = part_keep a b c x y p (kept refl)

-- texts that were put one at a time
pub text_is : {X : Type 0} (f : X → List ℕ) (slice items : List X) (texts : List (List ℕ)) → slice ≡ items → map f items ≡ texts → flat_map f slice ≡ flat_map (λ text. text) texts
text_is f slice items texts same is = ap (flat_map f) same ∙ (sym (flat_map-map (λ (t : List ℕ). t) f items) ∙ ap (flat_map (λ (t : List ℕ). t)) is)
