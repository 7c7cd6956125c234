-- What an assertion asks for.
use Rattle.std.proofs.Common.{◌≡◌, Bool, true, false, List, [], refl, sym, ap, ◌∙◌}
use Rattle.ca_tree.specs.declared.numbers.ItemId.{ItemId}
use Rattle.ca_tree.specs.declared.numbers.SiteId.{SiteId}
use Rattle.ca_model.specs.declared.values.Value.{Value}
use Rattle.ca_model.specs.Arith.{truth}
use Rattle.ca_model.specs.Asks.{Want, Fails, Got, Wants, Asks, ◌>>◌, ask}
use Rattle.ca_flow.specs.declared.instr.AtSite.{AtSite}
use Rattle.ca_flow.specs.declared.instr.Instr.{Instr}
use Rattle.ca_flow.specs.declared.instr.Instr.TheVariants as instr
use Rattle.ca_flow.specs.declared.instr.Reg.{Reg}
use Rattle.ca_flow.specs.Instructions.{on, reg, instr_run}
use Rattle.ca_thread.specs.Asked.{last_or}

abbrev test : Bool → SiteId → List Value → Got (List Value × Bool)
test b s r = let p : Asks (List Value × Bool) = elim b [ true ↦ on r | false ↦ ask (Fails s) >> on r ] in p []

wanted : {v w : Want} → ◌≡◌ {A = Got (List Value × Bool)} (Wants v) (Wants w) → v ≡ w
wanted e = cc

fails : (b : Bool) (s : SiteId) (r : List Value) (w : Want) → test b s r ≡ Wants w → Fails s ≡ w
fails true s r w e = absurd (cc)
fails false s r w e = wanted e

pub assert_wants : (c : Instr) (a : Reg) (at : AtSite) (i : ItemId) (r : List Value) (w : Want) → c ≡ instr.Assert a at → instr_run c i r [] ≡ Wants w → Fails at.site ≡ w
assert_wants c a at i r w is e = fails (truth (reg r a)) at.site r w (sym (ap (λ n. instr_run n i r []) is) ∙ e)

pub last_fails : (b : Bool) (s : SiteId) → last_or b (Fails s) ≡ Fails s
last_fails true s = refl
last_fails false s = refl
