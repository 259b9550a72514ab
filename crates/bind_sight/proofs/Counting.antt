-- How often names stand among columns, as columns come after.
use Rattle.std.proofs.Common.{◌≡◌, refl, sym, ap, ap₂, ◌∙◌, arith, ℕ, ◌+◌, ◌<◌, suc, Bool, true}
use Rattle.std.proofs.Common.{false, cond, List, [], ◌∷◌, ◌++◌, length, take, get_or, Some}
use Rattle.std.proofs.Common.{bytes_eq, if◌then◌else◌}
use Rattle.std.specs.Map.{lookup}
use Rattle.std.proofs.lemmas.List.{length-take-le}
use Rattle.std.proofs.lemmas.Slice.Eq.{bytes_eq-Decides}
use Rattle.bind_kinds.specs.declared.kind.Kind.{Kind}
use Rattle.bind_sight.specs.declared.output.Output.{Output}
use Rattle.bind_sight.specs.declared.output.Hit.{Hit}
use Rattle.bind_sight.specs.declared.output.Hit.TheVariants.{Nowhere}
use Rattle.bind_sight.specs.Columns.{hits, hits_from, is_name, once_more, known, Counts, CountsMore}
use Rattle.bind_sight.proofs.Index.{taken-next}

abbrev one_after : List ℕ → Hit → ℕ → Output → Hit
one_after q hit place c = if is_name q c.name then once_more hit place c.kind else hit

hits-append : (q : List ℕ) (place : ℕ) (hit : Hit) (cs : List Output) (c : Output) →
    hits_from q place hit (cs ++ c ∷ []) ≡ one_after q (hits_from q place hit cs)
    (place + length cs) c
hits-append q place hit [] c = let same : place ≡ place + 0 = omega arith in
    ap (λ n. one_after q hit n c) same
hits-append q place hit (x ∷ cs) c =
    let further : (place + 1) + length cs ≡ place + suc (length cs) = omega arith in
    hits-append q (place + 1) (one_after q hit place x) cs c ∙
    ap (λ n. one_after q (hits_from q (place + 1) (one_after q hit place x) cs) n c) further

pub counts-next : (es more : List (List ℕ × Hit)) (cs : List Output) (i : ℕ) (c : Output) →
    i < length cs → c ≡ get_or cs i c → CountsMore es more c i
    → Counts es (take i cs) → Counts more (take (i + 1) cs)
counts-next es more cs i c h e p k q =
    let before = hits q (take i cs) in
    let last : i ≡ 0 + length (take i cs) = omega (arith, length-take-le i cs (omega (arith, h))) in
    p q ∙ ap (λ z. one_after q z i c) (k q) ∙ ap (λ n. one_after q before n c) last ∙
    sym (hits-append q 0 Nowhere (take i cs) c) ∙ ap (hits q) (sym (taken-next cs i c h e))

-- an entry for the name of a column more
pub counts-more : (old new : List (List ℕ × Hit)) (name key : List ℕ) (place : ℕ) (kind : Kind)
    (hit : Hit) → key ≡ name
    → hit ≡ once_more (known (lookup (bytes_eq name) old)) place kind
    → ((q : List ℕ) → lookup (bytes_eq q) new ≡ cond (bytes_eq key q) (Some hit)
    (lookup (bytes_eq q) old))
    → CountsMore old new (record { name = Some name; kind = kind }) place
counts-more old new name key place kind hit same is p q =
    ap known (p q ∙ ap₂ (λ k h. cond (bytes_eq k q) (Some h) (lookup (bytes_eq q) old)) same is) ∙
    by (bytes_eq name q) refl
  where
    by : (b : Bool) → bytes_eq name q ≡ b
        → known (cond b (Some (once_more (known (lookup (bytes_eq name) old)) place kind))
        (lookup (bytes_eq q) old)) ≡ (if b then once_more (known (lookup (bytes_eq q) old))
        place kind else known (lookup (bytes_eq q) old))
    by true e = ap (λ z. once_more (known (lookup (bytes_eq z) old)) place kind)
        ((bytes_eq-Decides name q).0 e)
    by false e = refl
