-- Answers that may be missing: what holds of them where they are there.
use Rattle.std.proofs.Common.{◌≡◌, Bool, true, false, Option, Some, None, refl, subst}
use Rattle.std.specs.Prelude.{IfSome, if◌then◌else◌}
use Rattle.ca_model.specs.typing.Values.{also}
use Rattle.ca_model.specs.typing.Scopes.{or_else}
use Rattle.ca_model.specs.typing.Expressions.{both}

pub if_so : {A : Type 0} (P : A → Type 0) (o : Option A) → ((x : A) → o ≡ Some x → P x) → IfSome o P
if_so P None k = tt
if_so P (Some x) k = k x refl

pub so_if : {A : Type 0} (P : A → Type 0) (o : Option A) (x : A) → o ≡ Some x → IfSome o P → P x
so_if P o x is h = subst (λ p. IfSome p P) is h

pub weaker : {A : Type 0} (P Q : A → Type 0) (o : Option A) → ((x : A) → P x → Q x) → IfSome o P → IfSome o Q
weaker P Q None k h = tt
weaker P Q (Some x) k h = k x h

pub or_else_if : {A : Type 0} (P : A → Type 0) (a b : Option A) → IfSome a P → IfSome b P → IfSome (or_else a b) P
or_else_if P None b h i = i
or_else_if P (Some x) b h i = h

pub also_if : {A B : Type 0} (P : A → Type 0) (Q : B → Type 0) (o : Option A) (f : A → Option B) → IfSome o P → ((x : A) → P x → IfSome (f x) Q) → IfSome (also o f) Q
also_if P Q None f h k = tt
also_if P Q (Some x) f h k = k x h

pub also_each : {A B : Type 0} (Q : B → Type 0) (o : Option A) (f : A → Option B) → ((x : A) → IfSome (f x) Q) → IfSome (also o f) Q
also_each Q None f k = tt
also_each Q (Some x) f k = k x

pub if_tested : {A : Type 0} (Q : A → Type 0) (b : Bool) (o : Option A) → IfSome o Q → IfSome (if b then o else None) Q
if_tested Q true o h = h
if_tested Q false o h = tt

pub if_found : {A : Type 0} (P : A → Type 0) (b : Bool) (x : A) (o : Option A) → P x → IfSome o P → IfSome (if b then Some x else o) P
if_found P true x o h more = h
if_found P false x o h more = more

pub both_if : {A B : Type 0} (P : A → Type 0) (Q : B → Type 0) (a : Option A) (b : Option B) → IfSome a P → IfSome b Q → IfSome (both a b) (λ z. P z.0 × Q z.1)
both_if P Q None b h i = tt
both_if P Q (Some x) None h i = tt
both_if P Q (Some x) (Some y) h i = (h, i)
