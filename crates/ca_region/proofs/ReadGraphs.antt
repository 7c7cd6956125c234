-- Tables that are made from what the calls of a graph answered are those of the graph.
use Rattle.std.proofs.Common.{◌≡◌, ◌<◌, ◌≤◌, ◌-◌, ℕ, Bool, List, map, ap, ◌∙◌, subst}
use Rattle.std.specs.Prelude.{Contains, ◌↔◌}
use Rattle.ca_tree.specs.declared.numbers.ItemId.{ItemId}
use Rattle.ca_reach.specs.Reach.{Table, row, IsSet}
use Rattle.ca_flow.specs.declared.links.Link.{Link}
use Rattle.ca_flow.specs.Graphs.{ControlFlow}
use Rattle.ca_region.specs.Regions.{IsAt, IsBack, IsEnd}
use Rattle.ca_region.proofs.Behind.{IsTable}

module _ (g : ControlFlow) (lowest count : ℕ) (links : List Link) (links-is : links ≡ g.links) (lowest-is : lowest ≡ g.lowest) (count-is : count ≡ g.count) where
  pub table_of : (t : Table) → ((n m : ℕ) → Contains (row t n) m ↔ ((n < count) × IsBack lowest links n m)) → IsTable g t
  table_of t h =
      subst (λ k. (n m : ℕ) → Contains (row t n) m ↔ ((n < k) × IsBack g.lowest g.links n m)) count-is
      (subst (λ k. (n m : ℕ) → Contains (row t n) m ↔ ((n < count) × IsBack k g.links n m)) lowest-is
      (subst (λ ls. (n m : ℕ) → Contains (row t n) m ↔ ((n < count) × IsBack lowest ls n m)) links-is h))

  pub ends_of : (start : ℕ) (flags read set : List Bool) → read ≡ flags → ((m : ℕ) → IsSet set m ↔ ((m < count) × IsEnd lowest links (λ n. IsAt start read n) m)) → (m : ℕ) → IsSet set m ↔ ((m < g.count) × IsEnd g.lowest g.links (λ n. IsAt start flags n) m)
  ends_of start flags read set same h =
      subst (λ k. (m : ℕ) → IsSet set m ↔ ((m < k) × IsEnd g.lowest g.links (λ n. IsAt start flags n) m)) count-is
      (subst (λ k. (m : ℕ) → IsSet set m ↔ ((m < count) × IsEnd k g.links (λ n. IsAt start flags n) m)) lowest-is
      (subst (λ ls. (m : ℕ) → IsSet set m ↔ ((m < count) × IsEnd lowest ls (λ n. IsAt start flags n) m)) links-is
      (subst (λ (bs : List Bool). (m : ℕ) → IsSet set m ↔ ((m < count) × IsEnd lowest links (λ n. IsAt start bs n) m)) same h)))

  pub listed_of : (set read : List Bool) (r : List ItemId) → read ≡ set → ((n : ℕ) → n < 4294967296 → Contains (map (λ i. i.0) r) n ↔ ((lowest ≤ n) × IsSet read (n - lowest)))
      → (n : ℕ) → n < 4294967296 → Contains (map (λ i. i.0) r) n ↔ ((g.lowest ≤ n) × IsSet set (n - g.lowest))
  listed_of set read r same h =
      subst (λ k. (n : ℕ) → n < 4294967296 → Contains (map (λ i. i.0) r) n ↔ ((k ≤ n) × IsSet set (n - k))) lowest-is
      (subst (λ (bs : List Bool). (n : ℕ) → n < 4294967296 → Contains (map (λ i. i.0) r) n ↔ ((lowest ≤ n) × IsSet bs (n - lowest))) same h)

  -- the place of an item
  pub place_of : (n : ℕ) (i j : ItemId) → n ≡ i.0 - lowest → i ≡ j → n ≡ j.0 - g.lowest
  place_of n i j is same = is ∙ (ap (λ k. i.0 - k) lowest-is ∙ ap (λ (x : ItemId). x.0 - g.lowest) same)
