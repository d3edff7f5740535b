-- What goes over a link in several calls.
use Rattle.std.proofs.Common.{◌≡◌, ℕ, ◌+◌, ◌≤◌, List, [], ◌++◌, length, take, Option, Some, None, refl, sym, ap, ◌∙◌, subst, append_assoc, append-nil, IfOk}
use Rattle.std.specs.Prelude.{Result, Ok, Err}
use Rattle.std.proofs.lemmas.List.{take_at}
use Rattle.std.proofs.Math.Seq.{take-append-add}
use Rattle.esm_io.specs.Talks.{Talk, Reads, Writes, IsReadOut}
use Rattle.esm_api.specs.Receiving.{ReadsMore}

-- a talk from its parts
abbrev talk : List ℕ → List ℕ → List ℕ → Talk
talk read left written = record { read = read; left = left; written = written }

pub Writes_none : (t : Option Talk) → Writes t t []
Writes_none None = refl
Writes_none (Some t) = ap (λ w. Some (talk t.read t.left w)) (sym (append-nil t.written))

pub Writes_then : (a b c : Option Talk) (x y : List ℕ) → Writes a b x → Writes b c y → Writes a c (x ++ y)
Writes_then None b c x y first next = subst (λ t. Writes t c y) first next
Writes_then (Some t) b c x y first next =
    subst (λ t'. Writes t' c y) first next ∙ ap (λ w. Some (talk t.read t.left w)) (append_assoc t.written x y)

pub Reads_none : (t : Option Talk) → Reads t t []
Reads_none None = refl
Reads_none (Some t) = (t.left, refl, ap (λ r. Some (talk r t.left t.written)) (sym (append-nil t.read)))

pub Reads_then : (a b c : Option Talk) (x y : List ℕ) → Reads a b x → Reads b c y → Reads a c (x ++ y)
Reads_then None b c x y first next = subst (λ t. Reads t c y) first next
Reads_then (Some t) b c x y first next =
    let more = subst (λ t'. Reads t' c y) first.2 next in (
      more.0,
      first.1 ∙ ap (λ l. x ++ l) more.1 ∙ sym (append_assoc x y more.0),
      more.2 ∙ ap (λ r. Some (talk r more.0 t.written)) (append_assoc t.read x y),
    )

pub Reads_same : (a b c : Option Talk) (x : List ℕ) → Reads a b x → c ≡ b → Reads a c x
Reads_same a b c x reads same = subst (λ t. Reads a t x) (sym same) reads

pub Reads_and_none : (a b c : Option Talk) (x : List ℕ) → Reads a b x → Reads b c [] → Reads a c x
Reads_and_none a b c x reads none = subst (Reads a c) (append-nil x) (Reads_then a b c x [] reads none)

pub reads_on : (a b c : Option Talk) (before after : List ℕ) → Reads a b before → ReadsMore b c before after → Reads a c after
reads_on a b c before after first more = subst (Reads a c) (sym more.grown) (Reads_then a b c before more.piece first more.reads)

pub no_more : (a : Option Talk) (bytes : List ℕ) → ReadsMore a a bytes bytes
no_more a bytes = record { piece = []; grown = sym (append-nil bytes); reads = Reads_none a }

pub more_then : (a b c : Option Talk) (before mid after : List ℕ) → ReadsMore a b before mid → ReadsMore b c mid after → ReadsMore a c before after
more_then a b c before mid after first next = record {
  piece = first.piece ++ next.piece;
  grown = next.grown ∙ ap (λ t. t ++ next.piece) first.grown ∙ append_assoc before first.piece next.piece;
  reads = Reads_then a b c first.piece next.piece first.reads next.reads;
}

pub more_same : (a b c : Option Talk) (before after : List ℕ) → ReadsMore a b before after → c ≡ b → ReadsMore a c before after
more_same a b c before after more same = subst (λ t. ReadsMore a t before after) (sym same) more

pub more_and_none : (a b c : Option Talk) (before after : List ℕ) → ReadsMore a b before after → Reads b c [] → ReadsMore a c before after
more_and_none a b c before after more none = record { piece = more.piece; grown = more.grown; reads = Reads_and_none a b c more.piece more.reads none }

-- the bytes that were there stand at the front of more
pub front_of_more : (a b : Option Talk) (before after : List ℕ) (n : ℕ) → ReadsMore a b before after → length before ≡ n → take n after ≡ before
front_of_more a b before after n more len = ap (take n) more.grown ∙ take_at before more.piece n len

-- a read behind the front of a buffer puts its bytes there
read_behind : (old new : Option Talk) (buffer front into : List ℕ) (filled n : ℕ) → filled ≤ length buffer → front ≡ take filled buffer → length front ≡ filled
    → Reads old new (take n into) → ReadsMore old new (take filled buffer) (take (filled + n) (front ++ into))
read_behind old new buffer front into filled n within same len reads = record {
  piece = take n into;
  grown = ap (λ k. take (k + n) (front ++ into)) (sym len) ∙ take-append-add front into n ∙ ap (λ f. f ++ take n into) same;
  reads = reads;
}

pub read_behind_if : {E : Type 0} (old new : Option Talk) (buffer front into : List ℕ) (filled : ℕ) → filled ≤ length buffer → front ≡ take filled buffer → length front ≡ filled
    → (r : Result ℕ E) → IfOk r (λ n. Reads old new (take n into)) → IfOk r (λ n. ReadsMore old new (take filled buffer) (take (filled + n) (front ++ into)))
read_behind_if old new buffer front into filled within same len (Ok n) reads = read_behind old new buffer front into filled n within same len reads
read_behind_if old new buffer front into filled within same len (Err e) reads = tt

-- a read of no bytes reads nothing, at the end
pub end_if : {E : Type 0} (old new : Option Talk) (into : List ℕ) (r : Result ℕ E) → IfOk r (λ n. Reads old new (take n into)) → IfOk r (λ n. n ≡ 0 → IsReadOut new)
    → IfOk r (λ n. n ≡ 0 → IsReadOut new × Reads old new [])
end_if old new into (Ok n) reads end = λ none. (end none, subst (λ k. Reads old new (take k into)) none reads)
end_if old new into (Err e) reads end = tt

-- the front of a buffer's bytes, by way of its slice
pub front_is : (bytes slice items : List ℕ) (count : ℕ) → bytes ≡ take count slice → slice ≡ items → bytes ≡ take count items
front_is bytes slice items count front same = front ∙ ap (take count) same
