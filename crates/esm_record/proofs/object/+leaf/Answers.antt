use Rattle.std.proofs.Common.{◌≡◌, ◌-◌, ◌<◌, [], ◌∷◌, length, Some, None, refl, sym, ap, ap₂, ◌∙◌, arith}
use Rattle.json.specs.Token.{Token}
use Rattle.json.specs.Json.{parse_map, after_end_array, read_key, items, members, value}
use Rattle.json.specs.Reads.{token_of}
use Rattle.json.proofs.Grammar.{value_is, value-begin_array, value-begin_object, read_key-shorter, items_end, members_end, members_no_key}
use Rattle.serde_json.specs.Data.{null, boolean, string, array, object, item, put, no_items, no_members}
use Rattle.serde_json.specs.Read.{of_json, converted}
use Rattle.esm_record.proofs.LineTokens.{in_array, in_object, items_after, members_after, item_turn, member_turn, nothing_before}
use Rattle.esm_record.proofs.Tokens.{on_err, number_leaf, number_refused}
use Rattle.esm_record.proofs.object.+leaf.Goals as goal

pub read_leaf-returns-in_err-token-clause-err : goal.read_leaf-returns-in_err-token-clause-err
read_leaf-returns-in_err-token-clause-err t c =
    let empty : c.args.reader.now ≡ [] = grind arith in
    on_err c.from_residual.result (ap (converted of_json) (ap (value c.args.depth) empty ∙ value_is c.args.depth []))

pub read_leaf-returns-then-depth-eq0-clause-err : goal.read_leaf-returns-then-depth-eq0-clause-err
unfolding value
read_leaf-returns-then-depth-eq0-clause-err t c =
    let first : c.args.reader.now ≡ token_of c.in_ok-token.token ∷ c.next.new.self = grind arith in
    let none : c.args.depth ≡ 0 = omega arith in
    ap (converted of_json) (ap₂ value none (first ∙ ap (λ k. token_of k ∷ c.next.new.self) c.in-BeginArray.is))

pub read_leaf-returns-then-depth-eq0-2-clause-err : goal.read_leaf-returns-then-depth-eq0-2-clause-err
unfolding value
read_leaf-returns-then-depth-eq0-2-clause-err t c =
    let first : c.args.reader.now ≡ token_of c.in_ok-token.token ∷ c.next.new.self = grind arith in
    let none : c.args.depth ≡ 0 = omega arith in
    ap (converted of_json) (ap₂ value none (first ∙ ap (λ k. token_of k ∷ c.next.new.self) c.in-BeginObject.is))

pub read_leaf-returns-in_err-pass_items-in-BeginArray-clause-err : goal.read_leaf-returns-in_err-pass_items-in-BeginArray-clause-err
read_leaf-returns-in_err-pass_items-in-BeginArray-clause-err t c =
    let first : c.args.reader.now ≡ token_of c.in_ok-token.token ∷ c.next.new.self = grind arith in
    let opened = ap (converted of_json) (ap (value c.args.depth) (first ∙ ap (λ k. token_of k ∷ c.next.new.self) c.in-BeginArray.is) ∙ value-begin_array c.args.depth c.next.new.self (omega arith)) ∙ in_array (items (value (c.args.depth - 1)) (length c.next.new.self) c.next.new.self) in
    on_err c.from_residual-in_err-pass_items-in-BeginArray.result (opened ∙ ap (parse_map array) c.in_err-pass_items-in-BeginArray.ensures.err)

pub read_leaf-returns-in_err-pass_members-in-BeginObject-clause-err : goal.read_leaf-returns-in_err-pass_members-in-BeginObject-clause-err
read_leaf-returns-in_err-pass_members-in-BeginObject-clause-err t c =
    let first : c.args.reader.now ≡ token_of c.in_ok-token.token ∷ c.next.new.self = grind arith in
    let opened = ap (converted of_json) (ap (value c.args.depth) (first ∙ ap (λ k. token_of k ∷ c.next.new.self) c.in-BeginObject.is) ∙ value-begin_object c.args.depth c.next.new.self (omega arith)) ∙ in_object (members (value (c.args.depth - 1)) (length c.next.new.self) c.next.new.self) in
    on_err c.from_residual-in_err-pass_members-in-BeginObject.result (opened ∙ ap (parse_map object) c.in_err-pass_members-in-BeginObject.ensures.err)

pub read_leaf-returns-in-String-clause-ok : goal.read_leaf-returns-in-String-clause-ok
read_leaf-returns-in-String-clause-ok t c =
    let first : c.args.reader.now ≡ token_of c.in_ok-token.token ∷ c.next.new.self = grind arith in
    let is : c.args.reader.now ≡ Token.string c.in-String.text.now ∷ c.next.new.self = grind (arith, first) in
    record { data_read = string c.in-String.text.now; reads = ap (converted of_json) (ap (value c.args.depth) is ∙ value_is c.args.depth _); is = record { text = refl; whole = refl } }

pub read_leaf-returns-in-Some-Some-clause-ok : goal.read_leaf-returns-in-Some-Some-clause-ok
read_leaf-returns-in-Some-Some-clause-ok t c =
    let first : c.args.reader.now ≡ token_of c.in_ok-token.token ∷ c.next.new.self = grind arith in
    let is : c.args.reader.now ≡ Token.number c.in-Number.text.now ∷ c.next.new.self = grind (arith, first) in
    number_leaf c.args.depth c.in-Number.text.now c.next.new.self c.args.reader.now c.in-Some-Some.field-0 _ is c.in-Some-Some.ensures refl (sym c.in-Some-Some.field-0-is)

pub read_leaf-returns-in-Some-None-clause-ok : goal.read_leaf-returns-in-Some-None-clause-ok
read_leaf-returns-in-Some-None-clause-ok t c =
    let first : c.args.reader.now ≡ token_of c.in_ok-token.token ∷ c.next.new.self = grind arith in
    let is : c.args.reader.now ≡ Token.number c.in-Number.text.now ∷ c.next.new.self = grind (arith, first) in
    number_leaf c.args.depth c.in-Number.text.now c.next.new.self c.args.reader.now c.in-Some-None.field-0 _ is c.in-Some-None.ensures refl (sym c.in-Some-None.field-0-is)

pub read_leaf-returns-in-None-clause-err : goal.read_leaf-returns-in-None-clause-err
read_leaf-returns-in-None-clause-err t c =
    let first : c.args.reader.now ≡ token_of c.in_ok-token.token ∷ c.next.new.self = grind arith in
    let is : c.args.reader.now ≡ Token.number c.in-Number.text.now ∷ c.next.new.self = grind (arith, first) in
    number_refused c.args.depth c.in-Number.text.now c.next.new.self c.args.reader.now is c.in-None.ensures

pub read_leaf-returns-in-Bool-clause-ok : goal.read_leaf-returns-in-Bool-clause-ok
read_leaf-returns-in-Bool-clause-ok t c =
    let first : c.args.reader.now ≡ token_of c.in_ok-token.token ∷ c.next.new.self = grind arith in
    let is : c.args.reader.now ≡ Token.boolean c.in-Bool.field-0 ∷ c.next.new.self = grind (arith, first) in
    record { data_read = boolean c.in-Bool.field-0; reads = ap (converted of_json) (ap (value c.args.depth) is ∙ value_is c.args.depth _); is = record { text = refl; whole = refl } }

pub read_leaf-returns-in-Null-clause-ok : goal.read_leaf-returns-in-Null-clause-ok
read_leaf-returns-in-Null-clause-ok t c =
    let first : c.args.reader.now ≡ token_of c.in_ok-token.token ∷ c.next.new.self = grind arith in
    let is : c.args.reader.now ≡ Token.null ∷ c.next.new.self = grind (arith, first) in
    record { data_read = null; reads = ap (converted of_json) (ap (value c.args.depth) is ∙ value_is c.args.depth _); is = record { text = refl; whole = refl } }

pub read_leaf-returns-in-EndObject-clause-err : goal.read_leaf-returns-in-EndObject-clause-err
read_leaf-returns-in-EndObject-clause-err t c =
    let first : c.args.reader.now ≡ token_of c.in_ok-token.token ∷ c.next.new.self = grind arith in
    let none : value c.args.depth c.args.reader.now ≡ None = rw (value_is c.args.depth c.args.reader.now, first) (grind arith) in
    ap (converted of_json) none

pub read_leaf-returns-in_ok-pass_items-in-BeginArray-clause-ok : goal.read_leaf-returns-in_ok-pass_items-in-BeginArray-clause-ok
read_leaf-returns-in_ok-pass_items-in-BeginArray-clause-ok t c =
    let first : c.args.reader.now ≡ token_of c.in_ok-token.token ∷ c.next.new.self = grind arith in
    let opened = ap (converted of_json) (ap (value c.args.depth) (first ∙ ap (λ k. token_of k ∷ c.next.new.self) c.in-BeginArray.is) ∙ value-begin_array c.args.depth c.next.new.self (omega arith)) ∙ in_array (items (value (c.args.depth - 1)) (length c.next.new.self) c.next.new.self) in
    let passed = c.in_ok-pass_items-in-BeginArray.ensures.ok in
    record { data_read = array passed.found; reads = opened ∙ ap (parse_map array) passed.reads; is = record { text = refl; whole = refl } }

pub read_leaf-returns-in_ok-pass_members-in-BeginObject-clause-ok : goal.read_leaf-returns-in_ok-pass_members-in-BeginObject-clause-ok
read_leaf-returns-in_ok-pass_members-in-BeginObject-clause-ok t c =
    let first : c.args.reader.now ≡ token_of c.in_ok-token.token ∷ c.next.new.self = grind arith in
    let opened = ap (converted of_json) (ap (value c.args.depth) (first ∙ ap (λ k. token_of k ∷ c.next.new.self) c.in-BeginObject.is) ∙ value-begin_object c.args.depth c.next.new.self (omega arith)) ∙ in_object (members (value (c.args.depth - 1)) (length c.next.new.self) c.next.new.self) in
    let passed = c.in_ok-pass_members-in-BeginObject.ensures.ok in
    record { data_read = object passed.found; reads = opened ∙ ap (parse_map object) passed.reads; is = record { text = refl; whole = refl } }

pub pass_items-items-init : goal.pass_items-items-init
pass_items-items-init t c =
    let all = items (value c.args.depth) (length c.args.reader.now) c.args.reader.now in
    (length c.args.reader.now, (λ js. js), omega arith, nothing_before all, omega arith)

pub pass_items-returns-in_err-read_leaf-clause-err : goal.pass_items-returns-in_err-read_leaf-clause-err
pass_items-returns-in_err-read_leaf-clause-err t c =
    let p = value c.args.depth in
    let l = c.items in
    let n = l.invariant.0 in
    let going : (after_end_array l.reader ≡ None) × (c.take_end_array.new.self ≡ l.reader) = grind arith in
    on_err c.from_residual.result (l.invariant.3 ∙ item_turn p l.invariant.1 n l.reader None going.0 (rw (← going.1) c.in_err-read_leaf.ensures.err))

pub pass_items-items-preserved : goal.pass_items-items-preserved
pass_items-items-preserved t c =
    let p = value c.args.depth in
    let l = c.items in
    let n = l.invariant.0 in
    let before = l.invariant.1 in
    let going : (after_end_array l.reader ≡ None) × (c.take_end_array.new.self ≡ l.reader) = grind arith in
    let done = c.in_ok-read_leaf.ensures in
    let d = done.ok.data_read in
    let r = c.read_leaf.new.reader in
    let less : length r < length l.reader = rw (← going.1) done.shorter in (
      n - 1,
      (λ js. before (item d js)),
      omega (arith, l.invariant.2),
      l.invariant.3 ∙ item_turn p before n l.reader (Some (d, r)) going.0 (rw (← going.1) done.ok.reads),
      omega (arith, l.invariant.4),
    )

pub pass_items-returns-clause-ok : goal.pass_items-returns-clause-ok
pass_items-returns-clause-ok t c =
    let p = value c.args.depth in
    let l = c.items in
    let n = l.invariant.0 in
    let r = c.take_end_array.new.self in
    record { found = l.invariant.1 no_items; reads = l.invariant.3 ∙ ap (converted (items_after l.invariant.1)) (items_end p n l.reader r l.invariant.2 (grind arith)) }

pub pass_members-members-init : goal.pass_members-members-init
pass_members-members-init t c = (length c.args.reader.now, no_members, omega arith, refl, omega arith)

pub pass_members-returns-in_err-next_key-clause-err : goal.pass_members-returns-in_err-next_key-clause-err
pass_members-returns-in_err-next_key-clause-err t c =
    let l = c.members in
    on_err c.from_residual.result (l.invariant.3 ∙ ap (converted (members_after l.invariant.1)) (members_no_key (value c.args.depth) l.invariant.0 l.reader c.in_err-next_key.ensures.value))

pub pass_members-returns-in_err-read_leaf-clause-err : goal.pass_members-returns-in_err-read_leaf-clause-err
pass_members-returns-in_err-read_leaf-clause-err t c =
    let l = c.members in
    let k = c.in-Some.field-0.now in
    let s = c.next_key.new.self in
    let named : read_key l.reader ≡ Some (Some k, s) = grind arith in
    on_err c.from_residual-in_err-read_leaf.result (l.invariant.3 ∙ member_turn (value c.args.depth) l.invariant.1 l.invariant.0 k l.reader s None named c.in_err-read_leaf.ensures.err)

pub pass_members-members-preserved : goal.pass_members-members-preserved
pass_members-members-preserved t c =
    let p = value c.args.depth in
    let l = c.members in
    let n = l.invariant.0 in
    let old = l.invariant.1 in
    let k = c.in-Some.field-0.now in
    let s = c.next_key.new.self in
    let named : read_key l.reader ≡ Some (Some k, s) = grind arith in
    let done = c.in_ok-read_leaf.ensures in
    let d = done.ok.data_read in
    let r = c.read_leaf.new.reader in
    let less = read_key-shorter l.reader (Some k) s named in
    let lesser = done.shorter in (
      n - 1,
      put k d old,
      omega (arith, l.invariant.2),
      l.invariant.3 ∙ member_turn p old n k l.reader s (Some (d, r)) named done.ok.reads,
      omega (arith, l.invariant.4),
    )

pub pass_members-returns-clause-ok : goal.pass_members-returns-clause-ok
pass_members-returns-clause-ok t c =
    let l = c.members in
    record { found = l.invariant.1; reads = l.invariant.3 ∙ ap (converted (members_after l.invariant.1)) (members_end (value c.args.depth) l.invariant.0 l.reader c.next_key.new.self l.invariant.2 (grind arith)) }
