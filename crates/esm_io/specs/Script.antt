-- What a scripted caller answers. This product's own.
use Rattle.std.specs.Prelude.{◌≡◌, ℕ, nat_eq, slice_index_or, Bool, false, ◌||◌, List, [], ◌∷◌}
use Rattle.std.specs.List.{starts_with}
use Rattle.esm_model.specs.declared.entry.Reply.{Reply}
use Rattle.esm_model.specs.declared.entry.Reply.TheVariants.{Answered, Lost}
use Rattle.esm_io.specs.declared.script.Script.{Script}
use Rattle.esm_io.specs.declared.script.Script.TheVariants.{Always, Each, Poison}

-- the text occurs somewhere in the event
abbrev pub is_within : List ℕ → List ℕ → Bool
is_within text [] = starts_with nat_eq [] text
is_within text (byte ∷ event) = starts_with nat_eq (byte ∷ event) text || is_within text event

-- status 200 with no body, with or without the function error
abbrev pub error_reply : Bool → Reply
error_reply error = Answered 200 error []

-- status 200 with no body
abbrev pub plain_reply : Reply
plain_reply = error_reply false

-- the reply to an event, after `given` replies
abbrev pub answer_of : Script → ℕ → List ℕ → Reply
answer_of (Always reply) given event = reply
answer_of (Each replies) given event = slice_index_or replies.items given plain_reply
answer_of (Poison text) given event = error_reply (is_within text event)

-- no reply of the script is `Lost`
abbrev pub HasNoLost : Script → Type 0
HasNoLost (Always reply) = reply ≡ Lost → ⊥
HasNoLost (Each replies) = (n : ℕ) → slice_index_or replies.items n plain_reply ≡ Lost → ⊥
HasNoLost (Poison text) = Unit {0}
