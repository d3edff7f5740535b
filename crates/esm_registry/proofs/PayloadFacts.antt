-- A payload reads as the change that it was written for.
use Rattle.std.proofs.Common.{◌≡◌, ◌∙◌, ◌+◌, ◌-◌, ◌≤◌, ◌++◌, ℕ, List, [], false, Some, None, refl, sym, ap, subst, arith, length, take, drop, nat_lt, append_assoc, length-append, length-drop, option_and_then, option_map}
use Rattle.std.specs.Int.{w64, to_be_bytes, from_be_bytes}
use Rattle.std.specs.Str.{IsUtf8, bytes_eq, is_utf8}
use Rattle.std.proofs.lemmas.Bool.{cond-true, cond-false, le-ltb}
use Rattle.std.proofs.lemmas.List.{append-nil, take_at, drop_at}
use Rattle.std.proofs.lemmas.Nat.{from_be_bytes-to_be_bytes_8}
use Rattle.std.proofs.lemmas.Slice.Eq.{bytes_eq-Decides}
use Rattle.std.proofs.lemmas.Str.{is_utf8-from_IsUtf8}
use Rattle.serde_json.specs.Read.{read}
use Rattle.esm_model.specs.declared.moment.TheConstants.{MAX_MOMENT}
use Rattle.esm_model.specs.declared.config.Config.{Config}
use Rattle.esm_config.specs.Text.{config_text}
use Rattle.esm_registry.specs.declared.change.Change.TheVariants.{Created, Updated, Deleted}
use Rattle.esm_registry.specs.Configs.{IsRead, config_judged, canonical_text}
use Rattle.esm_registry.specs.Payload.{change_at, change_behind, change_of, config_given, config_in, if_canonical, moment_in, payload_of}

config_in-canonical : (c : Config) → IsRead c → IsUtf8 (canonical_text c) → config_in (canonical_text c) ≡ Some c
unfolding config_in config_judged canonical_text
config_in-canonical c law utf8 =
    ap (λ o. if_canonical (config_text c) (option_and_then config_given o))
    (cond-true (is_utf8 (config_text c)) (read (config_text c)) None (is_utf8-from_IsUtf8 (config_text c) utf8) ∙ law.1)
    ∙ ap (if_canonical (config_text c)) law.2
    ∙ cond-true (bytes_eq (config_text c) (config_text c)) (Some c) None ((bytes_eq-Decides (config_text c) (config_text c)).1 refl)

-- the parts behind the kind byte
parts : (kind : ℕ) (id : List ℕ) (moment : ℕ) (text : List ℕ) → length id ≡ 16 → moment ≤ MAX_MOMENT
    → change_behind kind ((id ++ to_be_bytes w64 moment) ++ text) ≡ change_at kind id moment text
parts kind id moment text sixteen early =
    let bytes = to_be_bytes w64 moment in
    let eight : length bytes ≡ 8 = refl in
    let all : length ((id ++ bytes) ++ text) ≡ 24 + length text =
    length-append (id ++ bytes) text ∙ ap (λ n. n + length text) (length-append id bytes ∙ ap (λ n. n + 8) sixteen) in
    let long : nat_lt (length ((id ++ bytes) ++ text)) 24 ≡ false = le-ltb _ _ (omega arith) in
    let behind_id : drop 16 ((id ++ bytes) ++ text) ≡ bytes ++ text =
    ap (drop 16) (append_assoc id bytes text) ∙ drop_at id (bytes ++ text) 16 sixteen in
    let id_is : take 16 ((id ++ bytes) ++ text) ≡ id = ap (take 16) (append_assoc id bytes text) ∙ take_at id (bytes ++ text) 16 sixteen in
    let behind_both : drop 24 ((id ++ bytes) ++ text) ≡ text = drop_at (id ++ bytes) text 24 (length-append id bytes ∙ ap (λ n. n + 8) sixteen) in
    let moment_is : moment_in (drop 16 ((id ++ bytes) ++ text)) ≡ moment =
    ap moment_in behind_id ∙ ap (from_be_bytes w64) (take_at bytes text 8 eight) ∙ from_be_bytes-to_be_bytes_8 moment (omega arith) in
    let within : nat_lt MAX_MOMENT moment ≡ false = le-ltb _ _ early in
    rw (long, moment_is, within, id_is, behind_both) refl

pub created_reads : (id : List ℕ) (moment : ℕ) (c : Config) → length id ≡ 16 → moment ≤ MAX_MOMENT → IsRead c → IsUtf8 (canonical_text c)
    → change_of (payload_of (Created id moment c)) ≡ Some (Created id moment c)
unfolding change_of payload_of
created_reads id moment c sixteen early law utf8 =
    parts 1 id moment (canonical_text c) sixteen early ∙ ap (option_map (Created id moment)) (config_in-canonical c law utf8)

pub updated_reads : (id : List ℕ) (moment : ℕ) (c : Config) → length id ≡ 16 → moment ≤ MAX_MOMENT → IsRead c → IsUtf8 (canonical_text c)
    → change_of (payload_of (Updated id moment c)) ≡ Some (Updated id moment c)
unfolding change_of payload_of
updated_reads id moment c sixteen early law utf8 =
    parts 2 id moment (canonical_text c) sixteen early ∙ ap (option_map (Updated id moment)) (config_in-canonical c law utf8)

pub deleted_reads : (id : List ℕ) (moment : ℕ) → length id ≡ 16 → moment ≤ MAX_MOMENT
    → change_of (payload_of (Deleted id moment)) ≡ Some (Deleted id moment)
unfolding change_of payload_of
deleted_reads id moment sixteen early =
    ap (change_behind 3) (sym (append-nil (id ++ to_be_bytes w64 moment))) ∙ parts 3 id moment [] sixteen early

all_of : (xs : List ℕ) (n : ℕ) → n ≡ length xs → take n xs ≡ xs
all_of xs n is = ap (take n) (sym (append-nil xs)) ∙ take_at xs [] n (sym is)

pub behind_is : (kind : ℕ) (bytes id : List ℕ) (moment : ℕ) → 24 ≤ length bytes → moment ≤ MAX_MOMENT → id ≡ take 16 bytes → moment ≡ moment_in (drop 16 bytes)
    → change_at kind id moment (take (length bytes - 24) (drop 24 bytes)) ≡ change_behind kind bytes
behind_is kind bytes id moment long early id_is moment_is =
    let enough : nat_lt (length bytes) 24 ≡ false = le-ltb _ _ long in
    let within : nat_lt MAX_MOMENT (moment_in (drop 16 bytes)) ≡ false = le-ltb _ _ (subst (λ n. n ≤ MAX_MOMENT) moment_is early) in
    let rest : take (length bytes - 24) (drop 24 bytes) ≡ drop 24 bytes = all_of (drop 24 bytes) (length bytes - 24) (sym (length-drop 24 bytes)) in
    rw (rest, id_is, moment_is) (sym (cond-false (nat_lt (length bytes) 24) None _ enough ∙ cond-false (nat_lt MAX_MOMENT (moment_in (drop 16 bytes))) None _ within))
