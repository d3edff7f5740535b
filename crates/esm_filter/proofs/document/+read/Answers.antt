use Rattle.std.proofs.Common.{◌≡◌, ◌-◌, ◌<◌, [], ◌∷◌, ◌++◌, length, Some, None, refl, sym, ap, ap₂, subst, ◌∙◌, arith, rules}
use Rattle.json.specs.Token.{Token}
use Rattle.json.specs.Json.{parse_map, after_end_array, read_key, items, members, value}
use Rattle.json.specs.Reads.{token_of}
use Rattle.json.proofs.Grammar.{value_is, value-begin_array, value-begin_object, read_key-shorter, items_end, members_end, members_no_key}
use Rattle.serde_json.specs.Data.{null, boolean, number, string, array, object, item, no_items, no_members, put}
use Rattle.serde_json.specs.Find.{get_member}
use Rattle.serde_json.specs.Read.{of_json, converted}
use Rattle.serde_json.specs.View.{number_view}
use Rattle.esm_filter.specs.Criteria.{patterns_view}
use Rattle.esm_filter.specs.Found.{found_view, items_view, members_view}
use Rattle.esm_filter.specs.declared.found.Found.{Number, Bool, Null, Text, the_lemmas}
use Rattle.esm_filter.specs.Named.{is_named, AreFew, Like}
use Rattle.esm_filter.proofs.FoundLemmas.{few_next, few_none, get_member-with_member, view-Array, view-Object}
use Rattle.esm_filter.proofs.KeepLemmas.{keeps_as, leaves_in, next_leaf, no_more}
use Rattle.esm_filter.proofs.LikeLemmas.{itself, like_arrays, like_objects, next_member, same_leaf}
use Rattle.esm_filter.proofs.Tokens.{in_array, in_object, items_after, members_after, item_turn, member_turn, nothing_before}
use Rattle.esm_filter.proofs.document.+read.Goals as goal

pub read-returns-in_err-token-clause-err : goal.read-returns-in_err-token-clause-err
read-returns-in_err-token-clause-err t c refused =
    let empty : c.args.reader.now ≡ [] = grind arith in
    ap (converted of_json) (ap (value c.args.depth) empty ∙ value_is c.args.depth [])

pub read-returns-then-depth-eq0-clause-err : goal.read-returns-then-depth-eq0-clause-err
unfolding value
read-returns-then-depth-eq0-clause-err t c never =
    let first : c.args.reader.now ≡ token_of c.in_ok-token.token ∷ c.next.new.self = grind arith in
    let none : c.args.depth ≡ 0 = omega arith in
    ap (converted of_json) (ap₂ value none (first ∙ ap (λ k. token_of k ∷ c.next.new.self) c.in-BeginArray.is))

pub read-returns-then-depth-eq0-2-clause-err : goal.read-returns-then-depth-eq0-2-clause-err
unfolding value
read-returns-then-depth-eq0-2-clause-err t c never =
    let first : c.args.reader.now ≡ token_of c.in_ok-token.token ∷ c.next.new.self = grind arith in
    let none : c.args.depth ≡ 0 = omega arith in
    ap (converted of_json) (ap₂ value none (first ∙ ap (λ k. token_of k ∷ c.next.new.self) c.in-BeginObject.is))

pub read-returns-in_err-read_items-in-BeginArray-clause-err : goal.read-returns-in_err-read_items-in-BeginArray-clause-err
read-returns-in_err-read_items-in-BeginArray-clause-err t c refused =
    let first : c.args.reader.now ≡ token_of c.in_ok-token.token ∷ c.next.new.self = grind arith in
    let opened = ap (converted of_json) (ap (value c.args.depth) (first ∙ ap (λ k. token_of k ∷ c.next.new.self) c.in-BeginArray.is) ∙ value-begin_array c.args.depth c.next.new.self (omega arith)) ∙ in_array (items (value (c.args.depth - 1)) (length c.next.new.self) c.next.new.self) in
    opened ∙ ap (parse_map array) (c.read_items.ensures.err (grind arith))

pub read-returns-in_err-read_members-in-BeginObject-clause-err : goal.read-returns-in_err-read_members-in-BeginObject-clause-err
read-returns-in_err-read_members-in-BeginObject-clause-err t c refused =
    let first : c.args.reader.now ≡ token_of c.in_ok-token.token ∷ c.next.new.self = grind arith in
    let opened = ap (converted of_json) (ap (value c.args.depth) (first ∙ ap (λ k. token_of k ∷ c.next.new.self) c.in-BeginObject.is) ∙ value-begin_object c.args.depth c.next.new.self (omega arith)) ∙ in_object (members (value (c.args.depth - 1)) (length c.next.new.self) c.next.new.self) in
    opened ∙ ap (parse_map object) (c.read_members.ensures.err (grind arith))

pub read-returns-in-String-clause-ok : goal.read-returns-in-String-clause-ok
read-returns-in-String-clause-ok t c =
    let first : c.args.reader.now ≡ token_of c.in_ok-token.token ∷ c.next.new.self = grind arith in
    let is : c.args.reader.now ≡ Token.string c.in-String.text.now ∷ c.next.new.self = grind (arith, first) in
    let seen : found_view (Text c.in-String.text) ≡ string c.in-String.text.now = search (rules, the_lemmas) in
    keeps_as (is_named (patterns_view c.args.patterns.now)) c.args.kept c.args.depth c.args.reader.now c.next.new.self (string c.in-String.text.now) (found_view (Text c.in-String.text))
    (ap (converted of_json) (ap (value c.args.depth) is ∙ value_is c.args.depth (Token.string c.in-String.text.now ∷ c.next.new.self)))
    (λ kept. seen)

pub read-returns-in-Bool-clause-ok : goal.read-returns-in-Bool-clause-ok
read-returns-in-Bool-clause-ok t c =
    let first : c.args.reader.now ≡ token_of c.in_ok-token.token ∷ c.next.new.self = grind arith in
    let is : c.args.reader.now ≡ Token.boolean c.in-Bool.b ∷ c.next.new.self = grind (arith, first) in
    let seen : found_view (Bool c.in-Bool.b) ≡ boolean c.in-Bool.b = search (rules, the_lemmas) in
    keeps_as (is_named (patterns_view c.args.patterns.now)) c.args.kept c.args.depth c.args.reader.now c.next.new.self (boolean c.in-Bool.b) (found_view (Bool c.in-Bool.b))
    (ap (converted of_json) (ap (value c.args.depth) is ∙ value_is c.args.depth (Token.boolean c.in-Bool.b ∷ c.next.new.self)))
    (λ kept. seen)

pub read-returns-in-Null-clause-ok : goal.read-returns-in-Null-clause-ok
read-returns-in-Null-clause-ok t c =
    let first : c.args.reader.now ≡ token_of c.in_ok-token.token ∷ c.next.new.self = grind arith in
    let is : c.args.reader.now ≡ Token.null ∷ c.next.new.self = grind (arith, first) in
    let seen : found_view Null ≡ null = search (rules, the_lemmas) in
    keeps_as (is_named (patterns_view c.args.patterns.now)) c.args.kept c.args.depth c.args.reader.now c.next.new.self null (found_view Null)
    (ap (converted of_json) (ap (value c.args.depth) is ∙ value_is c.args.depth (Token.null ∷ c.next.new.self)))
    (λ kept. seen)

pub read-returns-in-Some-clause-ok : goal.read-returns-in-Some-clause-ok
read-returns-in-Some-clause-ok t c =
    let first : c.args.reader.now ≡ token_of c.in_ok-token.token ∷ c.next.new.self = grind arith in
    let is : c.args.reader.now ≡ Token.number c.in-Number.text.now ∷ c.next.new.self = grind (arith, first) in
    let seen : found_view (Number c.in-Some.number) ≡ number (number_view c.in-Some.number) = search (rules, the_lemmas) in
    keeps_as (is_named (patterns_view c.args.patterns.now)) c.args.kept c.args.depth c.args.reader.now c.next.new.self (number (number_view c.in-Some.number)) (found_view (Number c.in-Some.number))
    (ap (converted of_json) (ap (value c.args.depth) is ∙ value_is c.args.depth (Token.number c.in-Number.text.now ∷ c.next.new.self)) ∙ rw (← c.in-Some.ensures))
    (λ kept. seen)

pub read-returns-in-None-clause-err : goal.read-returns-in-None-clause-err
read-returns-in-None-clause-err t c refused =
    let first : c.args.reader.now ≡ token_of c.in_ok-token.token ∷ c.next.new.self = grind arith in
    let is : c.args.reader.now ≡ Token.number c.in-Number.text.now ∷ c.next.new.self = grind (arith, first) in
    ap (converted of_json) (ap (value c.args.depth) is ∙ value_is c.args.depth _) ∙ rw (← c.in-None.ensures)

pub read-returns-in-EndObject-clause-err : goal.read-returns-in-EndObject-clause-err
read-returns-in-EndObject-clause-err t c refused =
    let first : c.args.reader.now ≡ token_of c.in_ok-token.token ∷ c.next.new.self = grind arith in
    let none : value c.args.depth c.args.reader.now ≡ None = rw (value_is c.args.depth c.args.reader.now, first) (grind arith) in
    ap (converted of_json) none

pub read-returns-in_ok-read_items-in-BeginArray-clause-ok : goal.read-returns-in_ok-read_items-in-BeginArray-clause-ok
read-returns-in_ok-read_items-in-BeginArray-clause-ok t c =
    let first : c.args.reader.now ≡ token_of c.in_ok-token.token ∷ c.next.new.self = grind arith in
    let opened = ap (converted of_json) (ap (value c.args.depth) (first ∙ ap (λ k. token_of k ∷ c.next.new.self) c.in-BeginArray.is) ∙ value-begin_array c.args.depth c.next.new.self (omega arith)) ∙ in_array (items (value (c.args.depth - 1)) (length c.next.new.self) c.next.new.self) in
    let found = c.in_ok-read_items-in-BeginArray in
    let names = is_named (patterns_view c.args.patterns.now) in
    let seen = view-Array found.field-0 in
    record {
      found = array found.ensures.ok.found;
      reads = opened ∙ ap (parse_map array) found.ensures.ok.reads;
      like = λ kept. subst (λ d. Like names (Some (array found.ensures.ok.found)) (Some d)) (sym seen) (like_arrays names found.ensures.ok.found (items_view found.field-0.items) (found.ensures.ok.same kept));
    }

pub read-returns-in_ok-read_members-in-BeginObject-clause-ok : goal.read-returns-in_ok-read_members-in-BeginObject-clause-ok
read-returns-in_ok-read_members-in-BeginObject-clause-ok t c =
    let first : c.args.reader.now ≡ token_of c.in_ok-token.token ∷ c.next.new.self = grind arith in
    let opened = ap (converted of_json) (ap (value c.args.depth) (first ∙ ap (λ k. token_of k ∷ c.next.new.self) c.in-BeginObject.is) ∙ value-begin_object c.args.depth c.next.new.self (omega arith)) ∙ in_object (members (value (c.args.depth - 1)) (length c.next.new.self) c.next.new.self) in
    let found = c.in_ok-read_members-in-BeginObject in
    let names = is_named (patterns_view c.args.patterns.now) in
    let seen = view-Object found.field-0 in
    record {
      found = object found.ensures.ok.found;
      reads = opened ∙ ap (parse_map object) found.ensures.ok.reads;
      like = λ kept. subst (λ d. Like names (Some (object found.ensures.ok.found)) (Some d)) (sym seen) (like_objects names found.ensures.ok.found (members_view found.field-0.items) (found.ensures.ok.like kept));
    }

pub read_items-items-init : goal.read_items-items-init
read_items-items-init t c =
    let all = items (value c.args.depth) (length c.args.reader.now) c.args.reader.now in
    (length c.args.reader.now, (λ ds. ds), omega arith, nothing_before all, omega arith, λ kept rest. ap (λ vs. leaves_in (items_view vs) ++ leaves_in rest) (sym c.new-found.ensures.items))

pub read_items-returns-in_err-item-clause-err : goal.read_items-returns-in_err-item-clause-err
read_items-returns-in_err-item-clause-err t c refused =
    let l = c.items in
    let going : (after_end_array l.reader ≡ None) × (c.take_end_array.new.self ≡ l.reader) = grind arith in
    l.invariant.3 ∙ item_turn (value c.args.depth) l.invariant.1 l.invariant.0 l.reader None going.0 (rw (← going.1) (c.read.ensures.err (grind arith)))

pub read_items-items-preserved : goal.read_items-items-preserved
read_items-items-preserved t c =
    let p = value c.args.depth in
    let l = c.items in
    let n = l.invariant.0 in
    let before = l.invariant.1 in
    let going : (after_end_array l.reader ≡ None) × (c.take_end_array.new.self ≡ l.reader) = grind arith in
    let done = c.in_ok-item.ensures in
    let d = done.ok.found in
    let v = c.in_ok-item.item in
    let r = c.read.new.reader in
    let less : length r < length l.reader = rw (← going.1) done.shorter in
    let names = is_named (patterns_view c.args.patterns.now) in (
      n - 1,
      (λ ds. before (item d ds)),
      omega (arith, l.invariant.2),
      l.invariant.3 ∙ item_turn p before n l.reader (Some (d, r)) going.0 (rw (← going.1) done.ok.reads),
      omega (arith, l.invariant.4),
      λ kept. next_leaf before l.found.items c.keep_item.new.found.items v d (same_leaf names d (found_view v) (done.ok.like kept)) (c.in_ok-keep_item.ensures.ok kept) (l.invariant.5 kept),
    )

pub read_items-returns-clause-ok : goal.read_items-returns-clause-ok
read_items-returns-clause-ok t c =
    let l = c.items in
    record {
      found = l.invariant.1 no_items;
      reads = l.invariant.3 ∙ ap (converted (items_after l.invariant.1)) (items_end (value c.args.depth) l.invariant.0 l.reader c.take_end_array.new.self l.invariant.2 (grind arith));
      same = λ kept. l.invariant.5 kept no_items ∙ no_more (leaves_in (items_view l.found.items));
    }

pub read_members-members-init : goal.read_members-members-init
read_members-members-init t c =
    let names = is_named (patterns_view c.args.patterns.now) in
    (length c.args.reader.now, no_members, omega arith, refl, omega arith, (λ kept k named. subst (λ es. Like names None (get_member k (members_view es))) (sym c.new-found.ensures.items) (itself names None)), subst (AreFew names) (sym c.new-found.ensures.items) (few_none names))

pub read_members-returns-in_err-name-clause-err : goal.read_members-returns-in_err-name-clause-err
read_members-returns-in_err-name-clause-err t c refused =
    let l = c.members in
    l.invariant.3 ∙ ap (converted (members_after l.invariant.1)) (members_no_key (value c.args.depth) l.invariant.0 l.reader c.in_err-name.ensures.value)

pub read_members-returns-in_err-member-clause-err : goal.read_members-returns-in_err-member-clause-err
read_members-returns-in_err-member-clause-err t c refused =
    let l = c.members in
    let k = c.in-Some.name.now in
    let s = c.next_key.new.self in
    let named : read_key l.reader ≡ Some (Some k, s) = grind arith in
    l.invariant.3 ∙ member_turn (value c.args.depth) l.invariant.1 l.invariant.0 k l.reader s None named (c.read.ensures.err (grind arith))

pub read_members-members-preserved : goal.read_members-members-preserved
read_members-members-preserved t c =
    let p = value c.args.depth in
    let l = c.members in
    let n = l.invariant.0 in
    let old = l.invariant.1 in
    let k = c.in-Some.name.now in
    let s = c.next_key.new.self in
    let named : read_key l.reader ≡ Some (Some k, s) = grind arith in
    let done = c.in_ok-member.ensures in
    let d = done.ok.found in
    let v = c.in_ok-member.member in
    let r = c.read.new.reader in
    let less = read_key-shorter l.reader (Some k) s named in
    let lesser = done.shorter in
    let names = is_named (patterns_view c.args.patterns.now) in (
      n - 1,
      put k d old,
      omega (arith, l.invariant.2),
      l.invariant.3 ∙ member_turn p old n k l.reader s (Some (d, r)) named done.ok.reads,
      omega (arith, l.invariant.4),
      next_member names c.args.kept k d (found_view v) old (members_view l.found.items) (members_view c.keep_member.new.found.items) l.invariant.5 c.is_wanted-wanted.result c.is_wanted-wanted.ensures done.ok.like
          (λ on q. ap (λ ms. get_member q (members_view ms)) (c.in_ok-keep_member.ensures.ok on) ∙ get_member-with_member q (c.in-Some.name, v) l.found.items) (λ off. ap members_view (c.keep_member.ensures.passed off)),
      few_next names c.args.kept (c.in-Some.name, v) l.found.items c.keep_member.new.found.items c.is_wanted-wanted.result c.is_wanted-wanted.ensures c.in_ok-keep_member.ensures.ok c.keep_member.ensures.passed l.invariant.6,
    )

pub read_members-returns-clause-ok : goal.read_members-returns-clause-ok
read_members-returns-clause-ok t c =
    let l = c.members in
    record { found = l.invariant.1; reads = l.invariant.3 ∙ ap (converted (members_after l.invariant.1)) (members_end (value c.args.depth) l.invariant.0 l.reader c.next_key.new.self l.invariant.2 (grind arith)); like = l.invariant.5 }

pub read_members-returns-clause-few : goal.read_members-returns-clause-few
read_members-returns-clause-few t c = c.members.invariant.6
