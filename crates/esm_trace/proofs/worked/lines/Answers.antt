use Rattle.std.proofs.Common.{refl}
use Rattle.std.specs.Fmt.{digits}
use Rattle.base64.specs.Rfc4648.{encode_symbols}
use Rattle.esm_model.specs.Numbers.{last_digits}
use Rattle.esm_model.specs.JsonText.{escaped_byte}
use Rattle.esm_model.specs.EventText.{base64_text}
use Rattle.esm_trace.specs.Trace.{numbers_text, entry_line, trace_text}
use Rattle.esm_trace.specs.Worked.{CameLine, BeganLine, FinalCall, EndedLine, GarbledReply, LostReply, GaveLine, FateAtArrival, FailureTold, StateTold, TriedLine, TriedFinalCall, ClosedLine, QueueLine, ReplayedLine, ShutLine, TwoLines}
use Rattle.esm_trace.proofs.worked.lines.Goals as goal

came : CameLine
unfolding entry_line digits last_digits
came = refl

began : BeganLine
unfolding numbers_text entry_line digits last_digits
began = refl

final_call : FinalCall
unfolding numbers_text entry_line digits last_digits
final_call = refl

ended : EndedLine
unfolding entry_line digits last_digits base64_text encode_symbols
ended = refl

garbled : GarbledReply
unfolding entry_line digits last_digits base64_text encode_symbols
garbled = refl

lost : LostReply
unfolding entry_line digits last_digits
lost = refl

gave : GaveLine
unfolding numbers_text entry_line digits last_digits
gave = refl

at_arrival : FateAtArrival
unfolding numbers_text entry_line digits last_digits
at_arrival = refl

failure : FailureTold
unfolding numbers_text entry_line digits last_digits escaped_byte
failure = refl

state : StateTold
unfolding numbers_text entry_line digits last_digits base64_text encode_symbols
state = refl

tried : TriedLine
unfolding numbers_text entry_line digits last_digits
tried = refl

tried_final_call : TriedFinalCall
unfolding numbers_text entry_line digits last_digits
tried_final_call = refl

closed : ClosedLine
unfolding entry_line digits last_digits
closed = refl

queue : QueueLine
unfolding numbers_text entry_line digits
queue = refl

replayed : ReplayedLine
unfolding numbers_text entry_line digits last_digits
replayed = refl

shut : ShutLine
unfolding entry_line digits
shut = refl

two : TwoLines
unfolding entry_line digits trace_text
two = refl

pub returns : goal.returns
returns c = record { came = came; began = began; final_call = final_call; ended = ended; garbled = garbled; lost = lost; gave = gave; at_arrival = at_arrival; failure = failure; state = state; tried = tried; tried_final_call = tried_final_call; closed = closed; queue = queue; replayed = replayed; shut = shut; two = two }
