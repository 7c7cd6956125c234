use Rattle.std.proofs.Common.{◌≡◌, ◌≤◌, ◌<◌, ◌+◌, ◌^◌, ℕ, arith, sym, ap, subst, ◌∙◌, true, cond, None}
use Rattle.std.specs.Prelude.{IsSome, is_some, replicate}
use Rattle.std.specs.FinMap as finite
use Rattle.std.specs.Cmp.{nat_cmp_total}
use Rattle.std.specs.FinMap.{len-insert}
use Rattle.ca_model.specs.Arith.{null}
use Rattle.ca_model.specs.Shared.{Blocks, Block, live_cells}
use Rattle.ca_model.specs.Runner.{IsLeastUnused}
use Rattle.ca_memory.specs.Kept.{AreCounts, blocks_of}
use Rattle.ca_memory.proofs.Counts.{added, still_used}
use Rattle.ca_memory.proofs.memory.Memory.allocate.Goals as goal

none_there : (m n : Blocks) (k : ℕ) → m ≡ n → finite.get n k ≡ None → finite.get m k ≡ None
none_there m n k e is = ap (λ l. finite.get l k) e ∙ is

counted : (m n : Blocks) (k count : ℕ) (b : Block) → n ≡ finite.insert m k b → finite.get m k ≡ None → count ≡ finite.len m → count + 1 ≡ finite.len n
counted m n k count b is none e = ap (λ i. i + 1) e ∙ sym (ap finite.len is ∙ (len-insert nat_cmp_total m k b ∙ ap (λ o. cond (is_some o) (finite.len m) (finite.len m + 1)) none))

pub least_unused-self-inside-requires-clause-count : goal.least_unused-self-inside-requires-clause-count
least_unused-self-inside-requires-clause-count c = counted _ _ c.args.block _ _ c.in_ok-add.ensures.ok (none_there _ _ _ c.self.view_is c.requires.unused) c.self.invariant.made

pub least_unused-self-inside-requires-clause-below : goal.least_unused-self-inside-requires-clause-below
least_unused-self-inside-requires-clause-below c = λ q lt. subst (λ m. IsSome (finite.get m q)) (sym c.in_ok-add.ensures.ok) (still_used _ c.args.block q _ (c.self.invariant.next.1 q lt))

pub invariant_of-self-2 : goal.invariant_of-self-2
invariant_of-self-2 c =
    let m = blocks_of c.self.inside.table.entries in
    let b : Block = record { heap = true; live = true; cells = replicate c.args.cells null } in
    let room : c.self.inside.cells + c.args.cells ≤ 2 ^ 20 = let r = c.requires.room in let l = c.self.invariant.live in let v = ap live_cells c.self.view_is in omega arith in
    let few : c.self.inside.count + 1 < 2 ^ 32 = let f = c.requires.few in let l = c.self.invariant.made in let v = ap finite.len c.self.view_is in omega arith in
    subst (λ n. AreCounts n (c.self.inside.cells + c.args.cells) (c.self.inside.count + 1) c.least_unused-self-inside.result) (sym c.in_ok-add.ensures.ok)
    (added m c.args.block c.args.cells c.self.inside.cells c.self.inside.count c.self.inside.least c.least_unused-self-inside.result (none_there _ _ _ c.self.view_is c.requires.unused) room few c.self.invariant
    (subst (λ n. IsLeastUnused n c.least_unused-self-inside.result) c.in_ok-add.ensures.ok c.least_unused-self-inside.ensures))
