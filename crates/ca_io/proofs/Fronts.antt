-- What a reader that stops behind a limit has read.
use Rattle.std.proofs.Common.{◌≡◌, ◌<◌, ◌≤◌, ◌+◌, ℕ, List, [], ◌++◌, length, take, inl, inr, arith}
use Rattle.std.specs.Prelude.{◌⊎◌, Option, Some, None, IfSome}
use Rattle.std.specs.Option.{option_map}
use Rattle.std.specs.declared.io.traits.Take.{Take}
use Rattle.std.specs.Io.Take.{take_limit, take_inner, take_remaining}
use Rattle.std.proofs.lemmas.Bool.{cases_lt}
use Rattle.std.proofs.lemmas.List.{take_all, length-take-le}
use Rattle.ca_io.specs.Outside.{IsEnough}

by_cases : (n : ℕ) (held : List ℕ) → (n < length held) ⊎ (length held ≤ n) → IsEnough n held (take (n + 1) held)
by_cases n held (inl longer) =
    let le : n + 1 ≤ length held = omega arith in
    inr (omega (arith, length-take-le (n + 1) held le), longer)
by_cases n held (inr short) = inl (take_all (n + 1) held (omega arith))

-- one byte past the limit is enough
take_enough : (n : ℕ) (held : List ℕ) → IsEnough n held (take (n + 1) held)
take_enough n held = by_cases n held (cases_lt n (length held))

told_enough : (told : Option (List ℕ)) (n : ℕ) (bytes : List ℕ) → IfSome (option_map (take (n + 1)) told) (λ xs. bytes ≡ [] ++ xs) → IfSome told (λ held. IsEnough n held bytes)
told_enough None n bytes is = tt
told_enough (Some held) n bytes is = rw is (take_enough n held)

pub reads_enough : {R : Type 0} (remaining : R → Option (List ℕ)) (t : Take R) (file : R) (n most : ℕ) (old bytes : List ℕ)
    → take_limit t ≡ most → take_inner t ≡ file → most ≡ n + 1 → old ≡ [] → IfSome (take_remaining remaining t) (λ xs. bytes ≡ old ++ xs) → IfSome (remaining file) (λ held. IsEnough n held bytes)
reads_enough remaining t file n most old bytes limit inner one_more empty is =
    told_enough (remaining file) n bytes (rw (limit, inner, one_more, empty) at is)
