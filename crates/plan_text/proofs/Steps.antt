-- One node more is written, from the top down or on the way back up.
use Rattle.std.proofs.Common.{ℕ, ◌≡◌, ◌+◌, ◌-◌, ◌<◌, ◌≤◌, Bool, true, false, not, ◌||◌, List, []}
use Rattle.std.proofs.Common.{◌∷◌, ◌++◌, drop, length, get_or, refl, if◌then◌else◌, sym, ap, ◌∙◌}
use Rattle.std.proofs.Common.{append_assoc, length-append, arith}
use Rattle.std.proofs.lemmas.List.{append-nil, drop_more, drop_all}
use Rattle.std.specs.List.{flat_map}
use Rattle.rel_algebra.specs.declared.plan.Node.{Node}
use Rattle.rel_algebra.specs.Plan.{no_node, unit_row}
use Rattle.rel_algebra.specs.PlanText.{Text}
use Rattle.rel_algebra.specs.PlanView.{node_of, with_node}
use Rattle.plan_text.specs.PlanLines.{node_text}
use Rattle.plan_text.specs.Parts.{Part, line, further, has_node, parts_of, heads, tails}

-- ---- one node

-- a node with its line
abbrev pub shown : Node → Part
shown n = record { text = node_text (with_node n unit_row); inner = further (with_node n unit_row) }

-- whether it has one
abbrev pub has : Bool → Node → Bool
has r n = not r || has_node ((node_of n).below no_node)

one_part : (r : Bool) (n : Node) → has r n ≡ true → parts_of r n ≡ shown n ∷ []
one_part r n h = ap (λ (b : Bool). if b then (shown n ∷ []) else []) h

no_part : (r : Bool) (n : Node) → has r n ≡ false → parts_of r n ≡ []
no_part r n h = ap (λ (b : Bool). if b then (shown n ∷ []) else []) h

pub head_put : (r : Bool) (n : Node) (d : ℕ) (old new : Text) → has r n ≡ true →
    new ≡ old ++ line (node_text (with_node n unit_row)) d → new ≡ old ++ heads (parts_of r n) d
head_put r n d old new h wrote =
    let same : d ≡ d + 0 = omega arith in
    wrote ∙ (ap (λ (k : ℕ). old ++ line (node_text (with_node n unit_row)) k) same ∙
    ap (λ (ps : List Part). old ++ heads ps d) (sym (one_part r n h)))

pub head_deep : (r : Bool) (n : Node) (d : ℕ) → has r n ≡ true →
    d + 1 ≡ d + length (parts_of r n)
head_deep r n d h = ap (λ (ps : List Part). d + length ps) (sym (one_part r n h))

pub no_head_put : (r : Bool) (n : Node) (d : ℕ) (old : Text) → has r n ≡ false →
    old ≡ old ++ heads (parts_of r n) d
no_head_put r n d old h =
    sym (append-nil old) ∙ ap (λ (ps : List Part). old ++ heads ps d) (sym (no_part r n h))

pub no_head_deep : (r : Bool) (n : Node) (d : ℕ) → has r n ≡ false →
    d ≡ d + length (parts_of r n)
no_head_deep r n d h =
    let same : d ≡ d + 0 = omega arith in
    same ∙ ap (λ (ps : List Part). d + length ps) (sym (no_part r n h))

pub tail_put : (r : Bool) (n : Node) (d : ℕ) (old new : Text) → has r n ≡ true →
    new ≡ old ++ further (with_node n unit_row) d → new ≡ old ++ tails (parts_of r n) d
tail_put r n d old new h wrote =
    wrote ∙ (ap (λ (t : Text). old ++ t) (sym (append-nil (further (with_node n unit_row) d))) ∙
    ap (λ (ps : List Part). old ++ tails ps d) (sym (one_part r n h)))

pub tail_out : (r : Bool) (n : Node) (d : ℕ) → has r n ≡ true →
    d - 1 ≡ d - length (parts_of r n)
tail_out r n d h = ap (λ (ps : List Part). d - length ps) (sym (one_part r n h))

pub no_tail_put : (r : Bool) (n : Node) (d : ℕ) (old : Text) → has r n ≡ false →
    old ≡ old ++ tails (parts_of r n) d
no_tail_put r n d old h =
    sym (append-nil old) ∙ ap (λ (ps : List Part). old ++ tails ps d) (sym (no_part r n h))

pub no_tail_out : (r : Bool) (n : Node) (d : ℕ) → has r n ≡ false →
    d ≡ d - length (parts_of r n)
no_tail_out r n d h =
    let same : d ≡ d - 0 = omega arith in
    same ∙ ap (λ (ps : List Part). d - length ps) (sym (no_part r n h))

-- ---- several nodes

-- the lines of upper nodes come first
heads_joined : (ps qs : List Part) (d : ℕ) → heads (ps ++ qs) d ≡
    heads qs d ++ heads ps (d + length qs)
heads_joined [] qs d = sym (append-nil (heads qs d))
heads_joined (p ∷ ps) qs d =
    let many : length (ps ++ qs) ≡ length ps + length qs = length-append ps qs in
    let deep : d + length (ps ++ qs) ≡ (d + length qs) + length ps = omega (arith, many) in
    ap (λ (t : Text). t ++ line p.text (d + length (ps ++ qs))) (heads_joined ps qs d) ∙
    (ap (λ (k : ℕ). (heads qs d ++ heads ps (d + length qs)) ++ line p.text k) deep ∙
    append_assoc (heads qs d) (heads ps (d + length qs))
    (line p.text ((d + length qs) + length ps)))

-- those of what lower nodes run come first
tails_joined : (ps qs : List Part) (d : ℕ) → tails (ps ++ qs) d ≡
    tails ps d ++ tails qs (d - length ps)
tails_joined [] qs d =
    let same : d ≡ d - 0 = omega arith in
    ap (tails qs) same
tails_joined (p ∷ ps) qs d =
    let out : (d - 1) - length ps ≡ d - length (p ∷ ps) = omega arith in
    ap (λ (t : Text). p.inner d ++ t) (tails_joined ps qs (d - 1)) ∙
    (sym (append_assoc (p.inner d) (tails ps (d - 1)) (tails qs ((d - 1) - length ps))) ∙
    ap (λ (k : ℕ). (p.inner d ++ tails ps (d - 1)) ++ tails qs k) out)

-- the parts of what is left, by those of its first node
parts_next : (f : Node → List Part) (ns : List Node) (i j : ℕ) (n : Node) → j ≡ i + 1 →
    i < length ns → n ≡ get_or ns i n →
    flat_map f (drop i ns) ≡ f n ++ flat_map f (drop j ns)
parts_next f ns i j n up l is =
    ap (flat_map f) (drop_more ns i n l) ∙
    (ap (λ (x : Node). f x ++ flat_map f (drop (i + 1) ns)) (sym is) ∙
    ap (λ (k : ℕ). f n ++ flat_map f (drop k ns)) (sym up))

-- from the top down
pub heads_put : (f : Node → List Part) (ns : List Node) (i j : ℕ) (n : Node) (d e : ℕ)
    (start old new : Text) → j ≡ i + 1 → i < length ns → n ≡ get_or ns i n →
    e ≡ d + length (flat_map f (drop j ns)) →
    old ≡ start ++ heads (flat_map f (drop j ns)) d →
    new ≡ old ++ heads (f n) e →
    new ≡ start ++ heads (flat_map f (drop i ns)) d
heads_put f ns i j n d e start old new up l is deep before wrote =
    let rest : List Part = flat_map f (drop j ns) in
    wrote ∙ (ap (λ (t : Text). t ++ heads (f n) e) before ∙
    (append_assoc start (heads rest d) (heads (f n) e) ∙
    (ap (λ (k : ℕ). start ++ (heads rest d ++ heads (f n) k)) deep ∙
    (ap (λ (t : Text). start ++ t) (sym (heads_joined (f n) rest d)) ∙
    ap (λ (ps : List Part). start ++ heads ps d) (sym (parts_next f ns i j n up l is))))))

pub heads_deep : (f : Node → List Part) (ns : List Node) (i j : ℕ) (n : Node) (d e g : ℕ) →
    j ≡ i + 1 → i < length ns → n ≡ get_or ns i n → e ≡ d + length (flat_map f (drop j ns)) →
    g ≡ e + length (f n) → g ≡ d + length (flat_map f (drop i ns))
heads_deep f ns i j n d e g up l is deep more =
    let rest : List Part = flat_map f (drop j ns) in
    let parts : length (flat_map f (drop i ns)) ≡ length (f n ++ rest) =
    ap length (parts_next f ns i j n up l is) in
    let many : length (f n ++ rest) ≡ length (f n) + length rest = length-append (f n) rest in
    omega (arith, deep, more, parts, many)

-- on the way back up
pub tails_put : (f : Node → List Part) (ns : List Node) (i : ℕ) (n : Node) (d e : ℕ)
    (old new all : Text) → i < length ns → n ≡ get_or ns i n → e ≡ d - length (f n) →
    new ≡ old ++ tails (f n) d →
    old ++ tails (flat_map f (drop i ns)) d ≡ all →
    new ++ tails (flat_map f (drop (i + 1) ns)) e ≡ all
tails_put f ns i n d e old new all l is out wrote before =
    let rest : List Part = flat_map f (drop (i + 1) ns) in
    ap (λ (t : Text). t ++ tails rest e) wrote ∙
    (append_assoc old (tails (f n) d) (tails rest e) ∙
    (ap (λ (k : ℕ). old ++ (tails (f n) d ++ tails rest k)) out ∙
    (ap (λ (t : Text). old ++ t) (sym (tails_joined (f n) rest d)) ∙
    (ap (λ (ps : List Part). old ++ tails ps d) (sym (parts_next f ns i (i + 1) n refl l is)) ∙
    before))))

pub tails_end : (f : Node → List Part) (ns : List Node) (i d : ℕ) (old all : Text) →
    length ns ≤ i → old ++ tails (flat_map f (drop i ns)) d ≡ all → old ≡ all
tails_end f ns i d old all l before =
    sym (append-nil old) ∙
    (ap (λ (ms : List Node). old ++ tails (flat_map f ms) d) (sym (drop_all i ns l)) ∙ before)
