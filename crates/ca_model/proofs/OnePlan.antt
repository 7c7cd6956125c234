-- A source and options have at most one plan.
use Rattle.std.proofs.Common.{◌≡◌, ◌∙◌, sym}
use Rattle.ca_model.specs.declared.plan.Plan.{Plan}
use Rattle.ca_model.specs.Codes.{Typed}
use Rattle.ca_model.specs.Plans.{Options, IsPlanOf}
use Rattle.ca_model.proofs.SameLists.{one_list}

pub one_plan : (p : Typed) (o : Options) (plan other : Plan) → IsPlanOf p o plan → IsPlanOf p o other → plan ≡ other
one_plan p o plan other a b =
    let limit : plan.limit ≡ other.limit = a.limit ∙ sym b.limit in
    let saves : plan.saves_after ≡ other.saves_after = one_list (λ i. i.0) plan.saves_after other.saves_after a.fits.saves_ascend b.fits.saves_ascend
    (λ i c. (b.saves_after i).1 ((a.saves_after i).0 c)) (λ i c. (a.saves_after i).1 ((b.saves_after i).0 c)) in
    let entries : plan.saves_at_entry ≡ other.saves_at_entry = one_list (λ i. i.0) plan.saves_at_entry other.saves_at_entry a.fits.entries_ascend b.fits.entries_ascend
    (λ i c. (b.saves_at_entry i).1 ((a.saves_at_entry i).0 c)) (λ i c. (a.saves_at_entry i).1 ((b.saves_at_entry i).0 c)) in
    let sites : plan.sites ≡ other.sites = one_list (λ i. i.0) plan.sites other.sites a.fits.sites_ascend b.fits.sites_ascend
    (λ i c. (b.sites i).1 ((a.sites i).0 c)) (λ i c. (a.sites i).1 ((b.sites i).0 c)) in
    let acquires : plan.acquires ≡ other.acquires = one_list (λ i. i.0) plan.acquires other.acquires a.fits.acquires_ascend b.fits.acquires_ascend
    (λ i c. (b.acquires i).1 ((a.acquires i).0 c)) (λ i c. (a.acquires i).1 ((b.acquires i).0 c)) in
    λ i. record { limit = limit i; saves_after = saves i; saves_at_entry = entries i; sites = sites i; acquires = acquires i }
