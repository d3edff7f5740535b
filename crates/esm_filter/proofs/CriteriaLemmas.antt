-- Patterns one after another.
use Rattle.std.proofs.Common.{◌≡◌, ℕ, suc, ◌+◌, ◌<◌, List, [], ◌∷◌, ◌++◌, length, ◌==◌, drop, get_or, Bool, true, false, if◌then◌else◌, Option, None, option_map, Result, Ok, Err, IfOk, Vec, Global, IsUtf8, arith, refl, ap, sym, subst, ◌∙◌, append_assoc, add-one, zero-add, add-zero, drop-cons, length-append}
use Rattle.std.specs.List.{list_any}
use Rattle.std.specs.Str.{is_utf8}
use Rattle.std.specs.Result.{result_map_both}
use Rattle.std.proofs.lemmas.Str.{IsUtf8-from_is_utf8, is_utf8-from_IsUtf8}
use Rattle.serde_json.specs.Data.{Data}
use Rattle.serde_json.specs.Read.{read}
use Rattle.esm_model.specs.Json.{read_json}
use Rattle.esm_model.specs.Filter.{Seen, fields_pass, in_message, in_record, patterns_pass}
use Rattle.esm_model.specs.Pattern.{Fields, Refusal, Reads, read_pattern, read_patterns, with_first}
use Rattle.esm_model.specs.Records.{Record}
use Rattle.esm_model.specs.declared.memory.OutOfMemory.{OutOfMemory}
use Rattle.esm_model.specs.declared.item.Message.{Message}
use Rattle.esm_filter.specs.Criteria.{patterns_view}
use Rattle.esm_filter.specs.Found.{found_view}
use Rattle.esm_filter.specs.declared.found.Found.{Found}
use Rattle.esm_filter.specs.Named.{is_named, Like}
use Rattle.esm_filter.specs.View.{fields_view}
use Rattle.esm_filter.proofs.KeepLemmas.{like_none}
use Rattle.esm_filter.proofs.LikeLemmas.{messages_alike, records_alike}
use Rattle.esm_filter.proofs.ViewLemmas.{any_view}
use Rattle.esm_filter.proofs.ReadLemmas.{Field, none_of_some}

abbrev pub Tree : Type 0
Tree = Vec Field Global

pub no_patterns : (ps : List Tree) (found : List ℕ → Seen) (b : Bool) → b ≡ (length ps == 0) → b ≡ true → true ≡ patterns_pass (patterns_view ps) found
no_patterns [] found b is none = refl
no_patterns (p ∷ ps) found b is none = let some : (length (p ∷ ps) == 0) ≡ false = none_of_some p ps in absurd (cc)

pub some_patterns : (ps : List Tree) (found : List ℕ → Seen) (r b : Bool) → b ≡ (length ps == 0) → b ≡ false → r ≡ list_any (λ p. fields_pass (fields_view p.items) found) ps
    → r ≡ patterns_pass (patterns_view ps) found
some_patterns [] found r b is not' h = absurd (cc)
some_patterns (p ∷ ps) found r b is not' h = h ∙ sym (any_view (λ fs. fields_pass fs found) (λ (q : Tree). fields_view q.items) (p ∷ ps))

-- the patterns that were read, and then the rest
abbrev pub then_patterns : List Fields → Result (List Fields) (ℕ × Refusal) → Result (List Fields) (ℕ × Refusal)
then_patterns ps r = result_map_both (λ qs. ps ++ qs) (λ e. (length ps + e.0, e.1)) r

pub none_before : (r : Result (List Fields) (ℕ × Refusal)) → r ≡ then_patterns [] r
none_before (Ok ps) = refl
none_before (Err e) = ap (λ n. Err (n, e.1)) (sym (zero-add e.0))

one_after : (ps : List Fields) (p : Fields) (r : Result (List Fields) (ℕ × Refusal)) → then_patterns ps (with_first (Ok p) r) ≡ then_patterns (ps ++ p ∷ []) r
one_after ps p (Ok qs) = ap Ok (sym (append_assoc ps (p ∷ []) qs))
one_after ps p (Err e) = let same : length ps + (e.0 + 1) ≡ length (ps ++ p ∷ []) + e.0 = simp length-append (omega arith) in ap (λ n. Err (n, e.1)) same

abbrev and_patterns : List Fields → Bool → List (List ℕ) → Reads Fields → Result (List Fields) (ℕ × Refusal)
and_patterns ps s ts o = then_patterns ps (with_first o (read_patterns s ts))

view_more : (ps : List Tree) (p : Tree) → patterns_view ps ++ fields_view p.items ∷ [] ≡ patterns_view (ps ++ p ∷ [])
view_more [] p = refl
view_more (q ∷ ps) p = ap (λ xs. fields_view q.items ∷ xs) (view_more ps p)

pub more_patterns : (s : Bool) (ps : List Tree) (ts : List (List ℕ)) (i : ℕ) (t : List ℕ) (p : Tree) → i < length ts → t ≡ get_or ts i t → read_pattern s t ≡ Ok (fields_view p.items)
    → then_patterns (patterns_view ps) (read_patterns s (drop i ts)) ≡ then_patterns (patterns_view (ps ++ p ∷ [])) (read_patterns s (drop (i + 1) ts))
more_patterns s ps ts i t p within is e =
    ap (λ us. then_patterns (patterns_view ps) (read_patterns s us)) (drop-cons ts i t within ∙ ap (λ u. u ∷ drop (suc i) ts) (sym is))
    ∙ ap (and_patterns (patterns_view ps) s (drop (suc i) ts)) e
    ∙ one_after (patterns_view ps) (fields_view p.items) (read_patterns s (drop (suc i) ts))
    ∙ ap (λ qs. then_patterns qs (read_patterns s (drop (suc i) ts))) (view_more ps p)
    ∙ ap (λ n. then_patterns (patterns_view (ps ++ p ∷ [])) (read_patterns s (drop n ts))) (sym (add-one i))

pub refused_pattern : (s : Bool) (ps : List Fields) (ts : List (List ℕ)) (i n : ℕ) (t : List ℕ) (why : Refusal) → i < length ts → t ≡ get_or ts i t → length ps ≡ n → read_pattern s t ≡ Err why
    → then_patterns ps (read_patterns s (drop i ts)) ≡ Err (n, why)
refused_pattern s ps ts i n t why within is count e =
    ap (λ us. then_patterns ps (read_patterns s us)) (drop-cons ts i t within ∙ ap (λ u. u ∷ drop (suc i) ts) (sym is))
    ∙ ap (and_patterns ps s (drop (suc i) ts)) e
    ∙ ap (λ m. Err (m, why)) (add-zero (length ps) ∙ count)

-- ---- what a document is judged by

pub of_own_fields : (ps qs : List Tree) (found : List ℕ → Seen) (b : Bool) → qs ≡ ps → b ≡ patterns_pass (patterns_view qs) found → b ≡ patterns_pass (patterns_view ps) found
of_own_fields ps qs found b same h = h ∙ ap (λ (us : List Tree). patterns_pass (patterns_view us) found) same

pub judged_record : (ps qs : List Tree) (r : Record) (bytes : List ℕ) (o : Option Data) (b : Bool) → qs ≡ ps → bytes ≡ r.payload → Like (is_named (patterns_view qs)) (read_json bytes) o
    → b ≡ patterns_pass (patterns_view qs) (in_record r o) → b ≡ patterns_pass (patterns_view ps) (in_record r (read_json r.payload))
judged_record ps qs r bytes o b same text like h =
    h ∙ sym (records_alike (patterns_view qs) r (read_json bytes) o like)
    ∙ ap (λ (us : List Tree). patterns_pass (patterns_view us) (in_record r (read_json bytes))) same
    ∙ ap (λ (bs : List ℕ). patterns_pass (patterns_view ps) (in_record r (read_json bs))) text

pub judged_message : (ps qs : List Tree) (m : Message) (bytes : List ℕ) (o : Option Data) (b : Bool) → qs ≡ ps → bytes ≡ m.body → Like (is_named (patterns_view qs)) (read bytes) o
    → b ≡ patterns_pass (patterns_view qs) (in_message m o) → b ≡ patterns_pass (patterns_view ps) (in_message m (read m.body))
judged_message ps qs m bytes o b same text like h =
    h ∙ sym (messages_alike (patterns_view qs) m (read bytes) o like)
    ∙ ap (λ (us : List Tree). patterns_pass (patterns_view us) (in_message m (read bytes))) same
    ∙ ap (λ (bs : List ℕ). patterns_pass (patterns_view ps) (in_message m (read bs))) text

-- bytes that are UTF-8, and bytes that are not
document_of_text : (names : List ℕ → Bool) (bytes text : List ℕ) (o : Option Data) → IsUtf8 bytes → text ≡ bytes → Like names (read text) o → Like names (read_json bytes) o
document_of_text names bytes text o utf8 same like =
    let reads : read text ≡ read_json bytes = ap read same ∙ ap (λ (b : Bool). if b then read bytes else None) (sym (is_utf8-from_IsUtf8 bytes utf8)) in
    subst (λ (d : Option Data). Like names d o) reads like

no_text_at : (bytes : List ℕ) (b : Bool) → is_utf8 bytes ≡ b → ¬ IsUtf8 bytes → read_json bytes ≡ None
no_text_at bytes true e not' = absurd (not' (IsUtf8-from_is_utf8 bytes e))
no_text_at bytes false e not' = ap (λ (b : Bool). if b then read bytes else None) e

pub no_text : (names : List ℕ → Bool) (bytes : List ℕ) → ¬ IsUtf8 bytes → Like names (read_json bytes) None
no_text names bytes not' = like_none names (read_json bytes) (no_text_at bytes (is_utf8 bytes) refl not')

pub text_read : (names : List ℕ → Bool) (bytes text : List ℕ) (r : Result (Option Found) OutOfMemory) → IsUtf8 bytes → text ≡ bytes → IfOk r (λ o. Like names (read text) (option_map found_view o)) → IfOk r (λ o. Like names (read_json bytes) (option_map found_view o))
text_read names bytes text (Ok o) utf8 same like = document_of_text names bytes text (option_map found_view o) utf8 same like
text_read names bytes text (Err e) utf8 same like = like
