use Rattle.std.proofs.Common.{◌≤◌, ◌+◌, length, List, [], ◌∷◌, Option, ap, subst, sym, ◌∙◌, arith}
use Rattle.std.specs.Prelude.{None, get_or}
use Rattle.std.proofs.lemmas.List.{length-append}
use Rattle.ca_model.specs.Accesses.{Site, all_sites}
use Rattle.ca_model.specs.Plans.{IsSite}
use Rattle.ca_flow.specs.declared.changes.ItemKind.{ItemKind}
use Rattle.ca_flow.specs.declared.searches.Reason.{Reason}
use Rattle.ca_flow.proofs.LoweredSites.{number_of}
use Rattle.ca_prune.specs.Pruning.{Tells, AreBehind}
use Rattle.ca_prune.proofs.Answering.{site_there, next_told}
use Rattle.ca_prune.proofs.all.hopeless_sites.Goals as goal

pub reason_at-requires : goal.reason_at-requires
reason_at-requires c = site_there c.args.code.now.source c.sites.k (omega (arith, c.sites-test.true, c.sites-k-end.ensures))

pub sites-preserved : goal.sites-preserved
sites-preserved c =
    let p = c.args.code.now.source in
    let depth = c.args.depth in
    let k = c.sites.k in
    let locks = subst (AreBehind p depth (λ (k : ItemKind). k.is_lock)) (sym c.deref.ensures.value) c.in_ok-locks.ensures in
    let changes = subst (AreBehind p depth (λ (k : ItemKind). k.can_change)) (sym c.deref-in-sites.ensures.value) c.in_ok-changes.ensures in
    let here : (s : Site) → IsSite p s (record { 0 = k + 1 }) → Tells p depth s c.reason_at.result = λ s is. c.reason_at.ensures depth s is locks changes in
    let all = next_told (λ n r. (s : Site) → IsSite p s (record { 0 = n + 1 }) → Tells p depth s r) c.sites.reasons.items c.reason_at.result k c.sites.invariant.count (λ n lt s is. c.sites.invariant.told n s lt is) here in
    record {
      count = ap (λ (rs : List (Option Reason)). length rs) c.in_ok-push.ensures.items ∙ (omega (arith, length-append c.sites.reasons.items (c.reason_at.result ∷ []), c.sites.invariant.count));
      told = λ n s lt is. subst (λ (rs : List (Option Reason)). Tells p depth s (get_or rs n None)) (sym c.in_ok-push.ensures.items) (all n lt s is);
    }

pub returns-clause-exact : goal.returns-clause-exact
returns-clause-exact c = λ k s is.
    let p = c.args.code.now.source in
    let within = number_of p s (record { 0 = k + 1 }) is in
    let low : k + 1 ≤ length (all_sites p) = within.1 in
    c.sites.invariant.told k s (omega (arith, low, c.sites-test.false, c.sites-k-end.ensures)) is
