-- What a caller over another one says of its calls. This product's own.
use Rattle.std.specs.Prelude.{◌≡◌, ℕ, Bool, List, [], ◌∷◌, ◌++◌, length, map, Option, Some, None, IfSome, if◌then◌else◌}
use Rattle.esm_io.specs.Told.{Grows}
use Rattle.esm_model.specs.declared.called.Called.{Called}
use Rattle.esm_model.specs.declared.entry.Reply.{Reply}
use Rattle.esm_model.specs.declared.entry.Reply.TheVariants.{Lost}

-- the caller below as it is now and as it was handed in, the calls made since, oldest first, and the replies to them, if
-- they are kept
pub record RecorderState (F : Type 0) : Type 0 where
  pub caller : F
  pub found : F
  pub logged : List Called
  pub kept : Option (List Reply)

-- no call was made yet
abbrev pub new_recorder : {F : Type 0} → Bool → F → RecorderState F
new_recorder keeps caller = record { caller = caller; found = caller; logged = []; kept = if keeps then Some [] else None }

-- calls as the caller below logs them: `sends` gives the bytes that it sends for an event
abbrev pub as_sent : (List ℕ → List ℕ) → List Called → List Called
as_sent sends calls = map (λ (c : Called). record { name = c.name; event = sends c.event; reply = c.reply }) calls

-- the replies to calls
abbrev pub replies_to : List Called → List Reply
replies_to calls = map (λ (c : Called). c.reply) calls

-- the log of the caller below grew by the calls made since, and the replies, if they are kept, are those to all of these
-- calls
pub record IsRecorder {F : Type 0} (log : F → Option (List Called)) (r : RecorderState F) : Type 0 where
  pub grown : Grows (log r.found) (log r.caller) r.logged
  pub kept : IfSome r.kept (λ replies. replies ≡ replies_to r.logged)

-- A run sees nothing of a caller but its log. So the log begins with what the caller below had logged when it was handed in:
-- a mark that is no call, which holds the number of those calls, or no number if that log was not visible; and then those
-- calls.

abbrev pub mark : List ℕ → Called
mark number = record { name = []; event = number; reply = Lost }

abbrev pub told_before : Option (List Called) → List Called
told_before None = mark [] ∷ []
told_before (Some calls) = mark (length calls ∷ []) ∷ calls

-- and then the calls made since
abbrev pub log_of : {F : Type 0} → (F → Option (List Called)) → RecorderState F → Option (List Called)
log_of log r = Some (told_before (log r.found) ++ r.logged)

-- the replies that each recorder kept, if every one kept its own
abbrev pub with_kept : Option (List Reply) → Option (List (List Reply)) → Option (List (List Reply))
with_kept (Some replies) (Some lists) = Some (replies ∷ lists)
with_kept _ _ = None

abbrev pub all_kept : {F : Type 0} → List (RecorderState F) → Option (List (List Reply))
all_kept [] = Some []
all_kept (r ∷ rs) = with_kept r.kept (all_kept rs)
