-- The streams that a list of records leaves: those of its parts.
use Rattle.std.proofs.Common.{◌≡◌, ℕ, Bool, true, false, cond, List, [], ◌∷◌, ◌++◌, map, refl, sym, ap, ◌∙◌, subst, inl, inr, append_assoc, append-nil}
use Rattle.std.specs.Prelude.{◌==◌}
use Rattle.std.proofs.lemmas.Bool.{cases_Bool, eq-eqb, eqb-true}
use Rattle.esm_model.specs.Records.{Record}
use Rattle.esm_model.specs.declared.entry.Entry.{Entry}
use Rattle.esm_model.specs.Setting.{Setting, Stream}
use Rattle.esm_model.specs.Entries.{holds}
use Rattle.esm_model.proofs.Lists.{In, In-here, In-there, In-cases, apart, Distinct, Distinct-push}
use Rattle.esm_ledger.specs.Coming.{with_list}
use Rattle.esm_ingest.specs.Coming.{with_record, with_records, shards_of, of_shard}
use Rattle.esm_ingest.specs.Parts.{part_in, parts_of, grown_by}
use Rattle.esm_ingest.proofs.Shards.{or_off, equal_back, apart_back, of_none, shards_distinct, pushed, shards_last, of_last}

-- of a list alone

-- the shard's records among those of the list
abbrev pub alone : List Record → ℕ → Stream
alone rs n = record { shard = n; records = of_shard n rs }

abbrev pub stream : ℕ → List Record → Stream
stream n rs = record { shard = n; records = rs }

alone_with : (rs : List Record) (r : Record) (n : ℕ) → (r.shard == n) ≡ true → alone (rs ++ r ∷ []) n ≡ stream n (of_shard n rs ++ r ∷ [])
alone_with rs r n same = ap (stream n) (of_last rs r n ∙ rw same refl)

alone_off : (rs : List Record) (r : Record) (n : ℕ) → (r.shard == n) ≡ false → alone (rs ++ r ∷ []) n ≡ alone rs n
alone_off rs r n off = ap (stream n) (of_last rs r n ∙ rw off refl)

all_off : (rs : List Record) (r : Record) (ns : List ℕ) → holds ns r.shard ≡ false → map (alone (rs ++ r ∷ [])) ns ≡ map (alone rs) ns
all_off rs r [] none = refl
all_off rs r (n ∷ ns) none =
    let off = or_off (n == r.shard) (holds ns r.shard) none in
    ap (λ (t : Stream). t ∷ map (alone (rs ++ r ∷ [])) ns) (alone_off rs r n (apart_back n r.shard off.0)) ∙ ap (λ (ts : List Stream). alone rs n ∷ ts) (all_off rs r ns off.1)

known_record : (rs : List Record) (r : Record) (ns : List ℕ) → Distinct ns → In ns r.shard → with_record (map (alone rs) ns) r ≡ map (alone (rs ++ r ∷ [])) ns
known_record rs r [] d member = cc
known_record rs r (n ∷ ns) d member = elim (cases_Bool (n == r.shard)) [
  | inl same ↦ (
      let there : n ≡ r.shard = eqb-true n r.shard same in
      rw same (ap (λ (t : Stream). t ∷ map (alone rs) ns) (sym (alone_with rs r n (equal_back n r.shard same)))
      ∙ ap (λ (ts : List Stream). alone (rs ++ r ∷ []) n ∷ ts) (sym (all_off rs r ns (subst (λ (k : ℕ). holds ns k ≡ false) there d.0)))))
  | inr off ↦ (
      let later : In ns r.shard = elim (In-cases n ns r.shard member) [
        | inl here ↦ absurd (let clash : true ≡ false = sym (eq-eqb n r.shard here) ∙ off in cc)
        | inr there ↦ there
      ] in
      rw off (ap (λ (t : Stream). t ∷ with_record (map (alone rs) ns) r) (sym (alone_off rs r n (apart_back n r.shard off)))
      ∙ ap (λ (ts : List Stream). alone (rs ++ r ∷ []) n ∷ ts) (known_record rs r ns d.1 later)))
]

new_record : (rs : List Record) (r : Record) (ns : List ℕ) → holds ns r.shard ≡ false → with_record (map (alone rs) ns) r ≡ map (alone rs) ns ++ stream r.shard (r ∷ []) ∷ []
new_record rs r [] none = refl
new_record rs r (n ∷ ns) none =
    let off = or_off (n == r.shard) (holds ns r.shard) none in
    rw off.0 (ap (λ (ts : List Stream). alone rs n ∷ ts) (new_record rs r ns off.1))

map_last : (rs : List Record) (ns : List ℕ) (n : ℕ) → map (alone rs) (ns ++ n ∷ []) ≡ map (alone rs) ns ++ alone rs n ∷ []
map_last rs [] n = refl
map_last rs (k ∷ ns) n = ap (λ (ts : List Stream). alone rs k ∷ ts) (map_last rs ns n)

one_more : (rs : List Record) (r : Record) → with_record (map (alone rs) (shards_of rs)) r ≡ map (alone (rs ++ r ∷ [])) (shards_of (rs ++ r ∷ []))
one_more rs r =
    elim (cases_Bool (holds (shards_of rs) r.shard)) [
      | inl known ↦ (
          let same : shards_of (rs ++ r ∷ []) ≡ shards_of rs = shards_last rs r ∙ rw known refl in
          known_record rs r (shards_of rs) (shards_distinct rs) known ∙ ap (map (alone (rs ++ r ∷ []))) (sym same))
      | inr new ↦ (
          let more : shards_of (rs ++ r ∷ []) ≡ shards_of rs ++ r.shard ∷ [] = shards_last rs r ∙ rw new refl in
          let one : stream r.shard (r ∷ []) ≡ alone (rs ++ r ∷ []) r.shard = sym (alone_with rs r r.shard (eq-eqb r.shard r.shard refl) ∙ ap (λ (ys : List Record). stream r.shard (ys ++ r ∷ [])) (of_none rs r.shard new)) in
          new_record rs r (shards_of rs) new
          ∙ (ap (λ (ts : List Stream). ts ++ stream r.shard (r ∷ []) ∷ []) (sym (all_off rs r (shards_of rs) new))
          ∙ (ap (λ (t : Stream). map (alone (rs ++ r ∷ [])) (shards_of rs) ++ t ∷ []) one
          ∙ (sym (map_last (rs ++ r ∷ []) (shards_of rs) r.shard) ∙ ap (map (alone (rs ++ r ∷ []))) (sym more)))))
    ]

all_more : (seen rs : List Record) → with_records (map (alone seen) (shards_of seen)) rs ≡ map (alone (seen ++ rs)) (shards_of (seen ++ rs))
all_more seen [] = ap (λ (ys : List Record). map (alone ys) (shards_of ys)) (sym (append-nil seen))
all_more seen (r ∷ rs) =
    ap (λ (ts : List Stream). with_records ts rs) (one_more seen r)
    ∙ (all_more (seen ++ r ∷ []) rs ∙ ap (λ (ys : List Record). map (alone ys) (shards_of ys)) (append_assoc seen (r ∷ []) rs))

-- the streams of a list alone are its parts
pub records_alone : (rs : List Record) → with_records [] rs ≡ map (alone rs) (shards_of rs)
records_alone rs = all_more [] rs

-- grown part by part

abbrev pub names : List Stream → List ℕ
names ts = map (λ (t : Stream). t.shard) ts

abbrev pub grown_all : List Stream → List Stream → List Stream
grown_all ts [] = ts
grown_all ts (u ∷ us) = grown_all (with_list ts u.shard u.records) us

list_more : (ts : List Stream) (n : ℕ) (xs : List Record) (r : Record) → (n == r.shard) ≡ true → with_record (with_list ts n xs) r ≡ with_list ts n (xs ++ r ∷ [])
list_more [] n xs r same = rw same refl
list_more (t ∷ ts) n xs r same = elim (cases_Bool (t.shard == n)) [
  | inl here ↦ (
      let there : (t.shard == r.shard) ≡ true = eq-eqb t.shard r.shard (eqb-true t.shard n here ∙ eqb-true n r.shard same) in
      rw (here, there) (ap (λ (ys : List Record). stream t.shard ys ∷ ts) (append_assoc t.records xs (r ∷ []))))
  | inr off ↦ (
      let there : (t.shard == r.shard) ≡ false = subst (λ (k : ℕ). (t.shard == k) ≡ false) (eqb-true n r.shard same) off in
      rw (off, there) (ap (λ (us : List Stream). t ∷ us) (list_more ts n xs r same)))
]

list_other : (ts : List Stream) (n : ℕ) (xs : List Record) (r : Record) → (n == r.shard) ≡ false → In (names ts) r.shard → with_record (with_list ts n xs) r ≡ with_list (with_record ts r) n xs
list_other [] n xs r off member = cc
list_other (t ∷ ts) n xs r off member = elim (cases_Bool (t.shard == n)) [
  | inl here ↦ (
      let there : (t.shard == r.shard) ≡ false = subst (λ (k : ℕ). (k == r.shard) ≡ false) (sym (eqb-true t.shard n here)) off in
      rw (here, there, here) refl)
  | inr not_here ↦ elim (cases_Bool (t.shard == r.shard)) [
    | inl there ↦ rw (not_here, there, not_here) refl
    | inr not_there ↦ (
        let later : In (names ts) r.shard = elim (In-cases t.shard (names ts) r.shard member) [
          | inl same ↦ absurd (let clash : true ≡ false = sym (eq-eqb t.shard r.shard same) ∙ not_there in cc)
          | inr inside ↦ inside
        ] in
        rw (not_here, not_there, not_here) (ap (λ (us : List Stream). t ∷ us) (list_other ts n xs r off later)))
  ]
]

named_more : (ts : List Stream) (n : ℕ) (xs : List Record) (k : ℕ) → In (names ts) k → In (names (with_list ts n xs)) k
named_more [] n xs k member = cc
named_more (t ∷ ts) n xs k member = elim (cases_Bool (t.shard == n)) [
  | inl here ↦ rw here member
  | inr off ↦ rw off (elim (In-cases t.shard (names ts) k member) [
    | inl same ↦ In-here t.shard (names (with_list ts n xs)) k same
    | inr later ↦ In-there t.shard (names (with_list ts n xs)) k (named_more ts n xs k later)
  ])
]

named_list : (ts : List Stream) (n : ℕ) (xs : List Record) → In (names (with_list ts n xs)) n
named_list [] n xs = In-here n [] n refl
named_list (t ∷ ts) n xs = elim (cases_Bool (t.shard == n)) [
  | inl here ↦ rw here (In-here t.shard (names ts) n (eqb-true t.shard n here))
  | inr off ↦ rw off (In-there t.shard (names (with_list ts n xs)) n (named_list ts n xs))
]

record_first : (ts us : List Stream) (r : Record) → In (names ts) r.shard → holds (names us) r.shard ≡ false → with_record (grown_all ts us) r ≡ grown_all (with_record ts r) us
record_first ts [] r member none = refl
record_first ts (u ∷ us) r member none =
    let off = or_off (u.shard == r.shard) (holds (names us) r.shard) none in
    record_first (with_list ts u.shard u.records) us r (named_more ts u.shard u.records r.shard member) off.1
    ∙ ap (λ (vs : List Stream). grown_all vs us) (list_other ts u.shard u.records r off.0 member)

one_list : (ts : List Stream) (r : Record) → with_list ts r.shard (r ∷ []) ≡ with_record ts r
one_list [] r = refl
one_list (t ∷ ts) r = elim (cases_Bool (t.shard == r.shard)) [
  | inl here ↦ rw here refl
  | inr off ↦ rw off (ap (λ (us : List Stream). t ∷ us) (one_list ts r))
]

grown_record : (ts us : List Stream) (r : Record) → Distinct (names us) → grown_all ts (with_record us r) ≡ with_record (grown_all ts us) r
grown_record ts [] r d = one_list ts r
grown_record ts (u ∷ us) r d = elim (cases_Bool (u.shard == r.shard)) [
  | inl here ↦ (
      let there : u.shard ≡ r.shard = eqb-true u.shard r.shard here in
      rw here (ap (λ (vs : List Stream). grown_all vs us) (sym (list_more ts u.shard u.records r here))
      ∙ sym (record_first (with_list ts u.shard u.records) us r (subst (λ (k : ℕ). In (names (with_list ts u.shard u.records)) k) there (named_list ts u.shard u.records)) (subst (λ (k : ℕ). holds (names us) k ≡ false) there d.0))))
  | inr off ↦ rw off (grown_record (with_list ts u.shard u.records) us r d.1)
]

names_record : (us : List Stream) (r : Record) → names (with_record us r) ≡ pushed (names us) r.shard
names_record [] r = refl
names_record (u ∷ us) r = elim (cases_Bool (u.shard == r.shard)) [
  | inl here ↦ rw here refl
  | inr off ↦ rw off (ap (λ (ns : List ℕ). u.shard ∷ ns) (names_record us r) ∙ front (holds (names us) r.shard))
]
  where
    front : (b : Bool) → u.shard ∷ cond b (names us) (names us ++ r.shard ∷ []) ≡ cond b (u.shard ∷ names us) (u.shard ∷ (names us ++ r.shard ∷ []))
    front true = refl
    front false = refl

distinct_pushed : (ns : List ℕ) (n : ℕ) → Distinct ns → Distinct (pushed ns n)
distinct_pushed ns n d = elim (cases_Bool (holds ns n)) [
  | inl known ↦ rw known d
  | inr new ↦ rw new (Distinct-push ns n d (apart ns n new))
]

grown_records : (ts us : List Stream) (rs : List Record) → Distinct (names us) → grown_all ts (with_records us rs) ≡ with_records (grown_all ts us) rs
grown_records ts us [] d = refl
grown_records ts us (r ∷ rs) d =
    grown_records ts (with_record us r) rs (subst Distinct (sym (names_record us r)) (distinct_pushed (names us) r.shard d))
    ∙ ap (λ (vs : List Stream). with_records vs rs) (grown_record ts us r d)

by_parts : (s : Setting) (h : List Entry) (rs : List Record) (ts : List Stream) (ns : List ℕ) → grown_by ts (map (part_in s h rs) ns) ≡ grown_all ts (map (alone rs) ns)
by_parts s h rs ts [] = refl
by_parts s h rs ts (n ∷ ns) = by_parts s h rs (with_list ts n (of_shard n rs)) ns

-- the streams, grown by the parts of the list
pub grown_parts : (s : Setting) (h : List Entry) (rs : List Record) (ts : List Stream) → grown_by ts (parts_of s h rs) ≡ with_records ts rs
grown_parts s h rs ts =
    by_parts s h rs ts (shards_of rs) ∙ (ap (grown_all ts) (sym (records_alone rs)) ∙ grown_records ts [] rs tt)
