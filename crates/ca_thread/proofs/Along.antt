-- Running frames go on with the frames that they stand for.
use Rattle.std.proofs.Common.{◌≡◌, ℕ, Bool, true, List, [], Some}
use Rattle.std.specs.Prelude.{slice_get}
use Rattle.ca_model.specs.declared.values.Value.{Value}
use Rattle.ca_model.specs.Asks.{Want, Got, Is, Wants, No_result}
use Rattle.ca_model.specs.Laws.{Stands}
use Rattle.ca_model.specs.Frames.{Code, Frame, begun, answered}
use Rattle.ca_model.proofs.Silent.{answered_stands}
use Rattle.ca_flow.specs.declared.instr.Step.{Step}
use Rattle.ca_flow.specs.Instructions.{node_run, toward}
use Rattle.ca_flow.specs.Standing.{StandsFor}
use Rattle.ca_flow.proofs.Standing.{silent, answers}
use Rattle.ca_thread.specs.Silent.{Silent, stays, goes, StopsAt}
use Rattle.ca_thread.specs.Standing.{IsWaiting, Answered}

pub silent_along : (code : Code) (g : List Step) (n m : ℕ) (r r' : List Value) (h : Frame) → Silent g n r m r' → Stands (begun code h) → StandsFor code g n r h → StandsFor code g m r' h
silent_along code g n m r r' h stays stands all = all
silent_along code g n m r r' h (goes {n' = k} {r' = t} {b = b} at more is gives leads) stands all =
    silent code g k m t r' b at h is gives leads stands (silent_along code g n k r t h more stands all)

stands_waiting : (d : Got (List Value × Bool)) → IsWaiting d → Stands d
stands_waiting (Is s rest) h = h
stands_waiting (Wants w) h = tt
stands_waiting No_result h = absurd h

-- an answer to what a frame wants
pub answered_along : (code : Code) (g : List Step) (x : Value) (n m next : ℕ) (r r' : List Value) (w : Want) (at : Step) (h : Frame) → Answered g x n r m r' → slice_get g n ≡ Some at → IsWaiting (node_run at.node r []) → toward at.links true ≡ Some next
    → begun code h ≡ Wants w → StandsFor code g n r h → StandsFor code g m r' (answered code h x) × Stands (begun code (answered code h x)) × StopsAt g m r'
answered_along code g x n m next r r' w at h does is waits leads asks all =
    let d = does.leads at next is waits leads in
    let stands : Stands (begun code (answered code h x)) = answered_stands code h w x asks in
    let first : StandsFor code g next d.0 (answered code h x) = answers code g n next r d.0 true x w at h is d.1 leads asks (stands_waiting (node_run at.node r []) waits) all in
    (silent_along code g next m d.0 r' (answered code h x) d.2 stands first, stands, d.3)
