-- The text of an object of sound members is read as the object into which they are put one after another.
use Rattle.std.proofs.Common.{◌≡◌, ◌∙◌, ℕ, ◌^◌, ◌<◌, ◌≤◌, negsuc, arith, lit<, lit≤, Bool, true, false, cond, refl, sym, ap, subst, List, [], ◌∷◌, append-nil, codes, Option, Some, option_map, option_and_then, bytes_eq, true≢false}
use Rattle.std.proofs.lemmas.Slice.Eq.{bytes_eq-Decides}
use Rattle.json.specs.Token.{Token}
use Rattle.json.specs.Lex.{tokens}
use Rattle.json.specs.Json as json
use Rattle.json.specs.Tree as tree
use Rattle.json.proofs.Printed.Tokens.{tokens-print}
use Rattle.json.proofs.Printed.Trees.{ArePrintable-json_tokens, value-json_tokens}
use Rattle.json.proofs.Printed.Decimals.{IsNumber-decimal, IsNumber-signed_decimal}
use Rattle.serde_json.specs.Data.{Data, boolean, number, string, array, object, negative, item, Members, no_members, member, put}
use Rattle.serde_json.specs.Find.{get_member}
use Rattle.serde_json.specs.Read.{max_depth, of_items, of_json, of_members, read}
use Rattle.serde_json.specs.Written.{compact_text, items_outline, members_outline, outline}
use Rattle.serde_json.proofs.Numbers.{number_of-decimal, number_of-negative}
use Rattle.serde_json.proofs.Texts.{print-outline}
use Rattle.serde_json.proofs.Views.{get_member-put, get_member-put_other}
use Rattle.esm_config.specs.Text as text
use Rattle.esm_config.specs.Text.{one_member, pattern_items}

abbrev whole : Option (json.Json × List Token) → Option Data
whole o = option_and_then of_json (option_and_then (λ p. json.if_last p.0 p.1) o)

read_outline : (d : Data) → tree.HasNumbers (outline d) → tree.depth (outline d) ≤ max_depth → read (compact_text d) ≡ of_json (outline d)
read_outline d numbers shallow =
    let same : tokens (compact_text d) ≡ tree.json_tokens (outline d) =
    ap tokens (sym (print-outline d)) ∙ tokens-print (tree.json_tokens (outline d)) (ArePrintable-json_tokens (outline d) numbers) in
    ap whole (ap (json.value max_depth) (same ∙ sym (append-nil (tree.json_tokens (outline d)))) ∙ value-json_tokens (outline d) max_depth [] shallow)

-- sound values: they read back as themselves

pub record IsSound (d : Data) : Type 0 where
  pub numbers : tree.HasNumbers (outline d)
  pub reads : of_json (outline d) ≡ Some d
  pub shallow : tree.depth (outline d) ≤ 3

pub sound_string : (s : List ℕ) → IsSound (string s)
sound_string s = record { numbers = tt; reads = refl; shallow = lit≤ tt }

pub sound_boolean : (b : Bool) → IsSound (boolean b)
sound_boolean b = record { numbers = tt; reads = refl; shallow = lit≤ tt }

pub sound_whole : (n : ℕ) → n < 2 ^ 64 → IsSound (text.whole n)
sound_whole n h = record { numbers = IsNumber-decimal n h; reads = ap (λ o. option_map number o) (number_of-decimal n h); shallow = lit≤ tt }

pub sound_minus : IsSound (number (negative (negsuc 0)))
sound_minus = record {
  numbers = IsNumber-signed_decimal (negsuc 0) (lit< tt);
  reads = ap (λ o. option_map number o) (number_of-negative 0 (lit< tt));
  shallow = lit≤ tt;
}

pub sound_scaling : (n : ℕ) → n < 2 ^ 64 → IsSound (text.scaling n)
sound_scaling n h = record {
  numbers = (IsNumber-decimal n h, tt);
  reads = ap (λ o. option_map object (option_and_then (λ d. Some (put (codes "MaximumConcurrency") d no_members)) (option_map number o))) (number_of-decimal n h);
  shallow = lit≤ tt;
}

pub sound_on_failure : (s : List ℕ) → IsSound (text.on_failure s)
sound_on_failure s = record { numbers = ((tt, tt), tt); reads = refl; shallow = lit≤ tt }

pub sound_types : (b : Bool) → IsSound (text.response_types b)
sound_types true = record { numbers = (tt, tt); reads = refl; shallow = lit≤ tt }
sound_types false = record { numbers = tt; reads = refl; shallow = lit≤ tt }

patterns_numbers : (ts : List (List ℕ)) → tree.ItemsHaveNumbers (items_outline (pattern_items ts))
patterns_numbers [] = tt
patterns_numbers (t ∷ ts) = ((tt, tt), patterns_numbers ts)

patterns_reads : (ts : List (List ℕ)) → of_items (items_outline (pattern_items ts)) ≡ Some (pattern_items ts)
patterns_reads [] = refl
patterns_reads (t ∷ ts) = ap (λ o. option_map (item (one_member (codes "Pattern") (string t))) o) (patterns_reads ts)

patterns_shallow : (ts : List (List ℕ)) → tree.items_depth (items_outline (pattern_items ts)) ≤ 1
patterns_shallow [] = lit≤ tt
patterns_shallow (t ∷ ts) = let h = patterns_shallow ts in omega arith

pub sound_filters : (ts : List (List ℕ)) → IsSound (one_member (codes "Filters") (array (pattern_items ts)))
sound_filters ts =
    let h = patterns_shallow ts in
    record {
      numbers = (patterns_numbers ts, tt);
      reads = ap (λ o. option_map object (option_and_then (λ d. Some (put (codes "Filters") d no_members)) (option_map array o))) (patterns_reads ts);
      shallow = omega arith;
    }

-- sound members

abbrev pub AllSound : Members → Type 0
AllSound no_members = Unit {0}
AllSound (member k d ms) = IsSound d × AllSound ms

abbrev pub put_all : Members → Members → Members
put_all no_members found = found
put_all (member k d ms) found = put_all ms (put k d found)

all_numbers : (ms : Members) → AllSound ms → tree.MembersHaveNumbers (members_outline ms)
all_numbers no_members h = tt
all_numbers (member k d ms) h = (h.0.numbers, all_numbers ms h.1)

all_shallow : (ms : Members) → AllSound ms → tree.members_depth (members_outline ms) ≤ 3
all_shallow no_members h = lit≤ tt
all_shallow (member k d ms) h = let a = h.0.shallow in let b = all_shallow ms h.1 in omega arith

all_reads : (ms found : Members) → AllSound ms → of_members (members_outline ms) found ≡ Some (put_all ms found)
all_reads no_members found h = refl
all_reads (member k d ms) found h =
    ap (λ o. option_and_then (λ x. of_members (members_outline ms) (put k x found)) o) h.0.reads ∙ all_reads ms (put k d found) h.1

pub reads_object : (ms : Members) → AllSound ms → read (compact_text (object ms)) ≡ Some (object (put_all ms no_members))
reads_object ms h =
    let b = all_shallow ms h in
    read_outline (object ms) (all_numbers ms h) (omega arith) ∙ ap (λ o. option_map object o) (all_reads ms no_members h)

-- the last of a name counts

abbrev pub last_of : List ℕ → Members → Option Data → Option Data
last_of q no_members before = before
last_of q (member k d ms) before = last_of q ms (cond (bytes_eq q k) (Some d) before)

put_at : (b : Bool) (q k : List ℕ) (d : Data) (found : Members) → bytes_eq q k ≡ b → get_member q (put k d found) ≡ cond b (Some d) (get_member q found)
put_at true q k d found e =
    let same : q ≡ k = (bytes_eq-Decides q k).0 e in
    subst (λ (r : List ℕ). get_member r (put k d found) ≡ Some d) (sym same) (get_member-put k d found)
put_at false q k d found e = get_member-put_other q k d found (λ same. true≢false (sym ((bytes_eq-Decides q k).1 same) ∙ e))

pub get_last : (q : List ℕ) (ms found : Members) → get_member q (put_all ms found) ≡ last_of q ms (get_member q found)
get_last q no_members found = refl
get_last q (member k d ms) found =
    get_last q ms (put k d found) ∙ ap (λ o. last_of q ms o) (put_at (bytes_eq q k) q k d found refl)
