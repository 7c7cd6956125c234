-- What an answer to an instruction does to the frames.
use Rattle.std.specs.Prelude.{◌≡◌, List, map, Option, Some, None}
use Rattle.ca_model.specs.declared.values.Value.{Value}
use Rattle.ca_model.specs.Asks.{Want, Calls, Returns}
use Rattle.ca_flow.specs.Instructions.{reg, returned}
use Rattle.ca_model.specs.Frames.{frame_of}
use Rattle.ca_flow.specs.Lowerings.{Lowering, rules_of}
use Rattle.ca_thread.specs.declared.frames.RunningFrame.{RunningFrame as Running}
use Rattle.ca_thread.specs.Standing.{IsStanding}
use Rattle.ca_thread.specs.declared.moves.Move.{Move}
use Rattle.ca_thread.specs.declared.moves.Move.TheVariants as moves

-- neither a call nor a return
abbrev pub IsPlain : Want → Type 0
IsPlain (Calls f xs) = ⊥
IsPlain (Returns x) = ⊥
IsPlain _ = Unit {0}

abbrev pub IsMove : Move → List Value → Want → Type 0
IsMove moves.Plain r w = IsPlain w
IsMove (moves.Call f as') r w = w ≡ Calls f (map (reg r) as'.now)
IsMove (moves.Return from) r w = w ≡ Returns (returned r from)

-- the frame that a call begins
abbrev pub IsCallee : Lowering → Want → Option Running → Type 0
IsCallee l (Calls g xs) (Some x) = IsStanding l x (frame_of (rules_of l) g xs)
IsCallee l (Calls g xs) None = ⊥
IsCallee l w None = Unit {0}
IsCallee l w (Some x) = ⊥
