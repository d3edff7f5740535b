-- Which messages of a queue are valid. Sources: the SQS API Reference, `SendMessage` (`MessageBody`: 1 byte to 1 MiB of
-- the characters that XML allows; `MessageGroupId`: 1 to 128 letters, digits and punctuation) and the Lambda quotas; the
-- form of an id is this product's own.
use Rattle.std.specs.Prelude.{◌≡◌, ℕ, ◌==◌, nat_le, not, ◌≤◌, Bool, true, false, ◌&&◌, ◌||◌, List, [], ◌∷◌, length, Option, Some, None}
use Rattle.esm_model.specs.declared.moment.TheConstants.{MAX_MOMENT}
use Rattle.esm_model.specs.declared.limits.TheConstants.{MAX_DATA}
use Rattle.esm_model.specs.declared.config.Kind.{Kind}
use Rattle.esm_model.specs.declared.config.Kind.TheVariants.{Stream, Standard, Fifo}
use Rattle.esm_model.specs.declared.item.Message.{Message}
use Rattle.esm_model.specs.Valid.{is_between, is_name_byte, is_word}

-- 1 to 100 letters, digits, `-` and `_`
abbrev pub is_message_id : List ℕ → Bool
is_message_id text = is_word is_name_byte 1 100 text

-- a byte that is a character of its own, or part of a longer one: tab, line feed, carriage return, or any from 0x20 on
abbrev pub is_body_byte : ℕ → Bool
is_body_byte b = nat_le 32 b || (b == 9) || (b == 10) || (b == 13)

-- the text begins with U+FFFE or U+FFFF, in UTF-8 EF BF BE and EF BF BF
abbrev pub ends_plane : List ℕ → Bool
ends_plane (a ∷ b ∷ c ∷ rest) = (a == 239) && (b == 191) && nat_le 190 c
ends_plane _ = false

-- UTF-8 text of the characters that a body may have: tab, line feed, carriage return, U+0020 to U+D7FF, U+E000 to
-- U+FFFD and U+10000 to U+10FFFF
abbrev pub has_body_chars : List ℕ → Bool
has_body_chars [] = true
has_body_chars (b ∷ rest) = is_body_byte b && not (ends_plane (b ∷ rest)) && has_body_chars rest

abbrev pub is_message_body : List ℕ → Bool
is_message_body text = is_between 1 MAX_DATA (length text) && has_body_chars text

abbrev pub is_group_byte : ℕ → Bool
is_group_byte b = is_between 33 126 b

-- 1 to 128 bytes from 0x21 to 0x7E
abbrev pub is_message_group : List ℕ → Bool
is_message_group text = is_word is_group_byte 1 128 text

-- there is a group if and only if the queue is FIFO
abbrev pub is_group_of : Kind → Option (List ℕ) → Bool
is_group_of Stream group = false
is_group_of Standard None = true
is_group_of Standard (Some text) = false
is_group_of Fifo None = false
is_group_of Fifo (Some text) = is_message_group text

pub record IsValidMessage (kind : Kind) (m : Message) : Type 0 where
  pub id : is_message_id m.id ≡ true
  pub body : is_message_body m.body ≡ true
  pub sent : m.sent ≤ MAX_MOMENT
  pub group : is_group_of kind m.group ≡ true
