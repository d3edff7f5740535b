use Rattle.std.proofs.Common.{◌≡◌, ℕ, List, [], ◌∷◌, ◌++◌, take, ap, ap₂, ◌∙◌, append_assoc}
use Rattle.std.specs.declared.snapshot.Snapshot.{Snapshot}
use Rattle.std.proofs.lemmas.List.{append-nil, take-append-drop}
use Rattle.std.proofs.lemmas.List.Concat.{flat_map-append}
use Rattle.esm_record.specs.Fed.{in_blocks}
use Rattle.esm_record.proofs.fed_bytes.push_blocks.Goals as goal

one_more : (blocks : List (Snapshot (List ℕ))) (block : Snapshot (List ℕ)) (after rest whole : List ℕ) → block.value ++ after ≡ rest → in_blocks blocks ++ rest ≡ whole → in_blocks (blocks ++ block ∷ []) ++ after ≡ whole
one_more blocks block after rest whole parts is =
    ap (λ bs. bs ++ after) (flat_map-append (λ (b : Snapshot (List ℕ)). b.value) blocks (block ∷ []) ∙ ap (λ bs. in_blocks blocks ++ bs) (append-nil block.value))
    ∙ append_assoc (in_blocks blocks) block.value after
    ∙ ap (λ bs. in_blocks blocks ++ bs) parts
    ∙ is

pub loop-block-preserved : goal.loop-block-preserved
loop-block-preserved c =
    let rest : List ℕ = c.loop-block.rest.now in
    let front : c.of.result.value ≡ take 256 rest = c.of.ensures ∙ c.in-Some.ensures.cases.0 in
    let parts : c.of.result.value ++ c.in-Some.after.now ≡ rest = ap₂ (λ (a : List ℕ) (b : List ℕ). a ++ b) front c.in-Some.ensures.cases.1 ∙ take-append-drop 256 rest in
    let pushed : c.push.new.self.items ≡ c.loop-block.noted.items ++ c.of.result ∷ [] = c.in_ok-push.ensures.items in
    ap (λ bs. in_blocks bs ++ c.in-Some.after.now) pushed ∙ one_more c.loop-block.noted.items c.of.result c.in-Some.after.now rest (in_blocks c.args.noted.now.items ++ c.args.bytes.now) parts c.loop-block.invariant
