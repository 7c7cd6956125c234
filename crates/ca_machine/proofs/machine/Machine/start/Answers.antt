use Rattle.std.proofs.Common.{◌≡◌, [], ◌∷◌, ◌++◌, None, sym, ap, subst, ◌∙◌}
use Rattle.ca_model.specs.Arith.{null}
use Rattle.ca_model.specs.Codes.{Typed}
use Rattle.ca_model.specs.Hardened.{Hardened, hardened}
use Rattle.ca_model.specs.Machine.{State}
use Rattle.ca_model.specs.Opening.{opening}
use Rattle.ca_flow.specs.Lowerings.{Lowering, rules_of}
use Rattle.ca_shared.specs.Histories.{History}
use Rattle.ca_machine.specs.Machines.{StandAs}
use Rattle.ca_machine.proofs.Entering.{first_thread, opening_stands}
use Rattle.ca_machine.proofs.machine.Machine.start.Goals as goal

abbrev opened_by : Typed → History
opened_by p = record { globals = p.globals; mutexes = p.mutexes; trace = [] }

pub invariant_of-result : goal.invariant_of-result
invariant_of-result c =
    let code : Lowering = c.in_ok-code.code in
    let s : State Hardened = opening (hardened (rules_of code)) code.source in
    let shared : c.in_ok-shared.shared ≡ opened_by code.source = c.in_ok-shared.ensures ∙ ap opened_by (sym c.in_ok-code.ensures.source) in
    let main : c.in_ok-main.main ≡ first_thread code = c.in_ok-main.ensures ∙ ap (λ f. record { code = code; thread = 0; own = record { function = f; argument = null; entries = [] }; prepared = None }) c.main.ensures in
    let list : c.push.new.self.items ≡ first_thread code ∷ [] = c.in_ok-push.ensures.items ∙ (ap (λ ps. ps ++ c.in_ok-main.main ∷ []) c.new-privates.ensures.items ∙ ap (λ p. p ∷ []) main) in
    (s, subst (λ h. StandAs code h c.push.new.self.items s) (sym shared) (subst (λ ps. StandAs code (opened_by code.source) ps s) (sym list) (opening_stands code)))
