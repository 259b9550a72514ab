-- A literal before a comma or a closing bracket is an expression of its own, at each level.
use Rattle.std.proofs.Common.{◌≡◌, ℕ, Bool, true, false, cond, ◌&&◌, ◌||◌, List, [], ◌∷◌, drop, Ok}
use Rattle.std.proofs.Common.{Err, refl, ap, sym, ◌∙◌}
use Rattle.std.proofs.lemmas.Bool.{and_parts}
use Rattle.grammar_sql.specs.declared.chain_level.ChainLevel.{ChainLevel}
use Rattle.grammar_sql.specs.declared.chain_level.ChainLevel.TheVariants as level
use Rattle.sql_lex.specs.declared.sign.Sign.TheVariants as s
use Rattle.sql_lex.specs.declared.token.TokenKind.{TokenKind}
use Rattle.sql_lex.specs.declared.token.TokenKind.TheVariants as kind
use Rattle.sql_lex.specs.declared.token.Token.{Token}
use Rattle.syntax_trees.specs.declared.anchor.Anchor.{Anchor}
use Rattle.syntax_trees.specs.declared.expr.Expr.{Expr}
use Rattle.syntax_trees.specs.declared.expr.Expr.TheVariants as tree
use Rattle.syntax_trees.specs.declared.expr.Link.{Link}
use Rattle.syntax_trees.specs.declared.expr.Literal.{Literal}
use Rattle.syntax_trees.specs.declared.expr.Operation.{Operation}
use Rattle.grammar_algebra.specs.Grammar.{token, nested, both, either, optional, many, staged}
use Rattle.grammar_algebra.specs.Grammar.{map_to}
use Rattle.grammar_algebra.specs.Reading.{Outcome, NoSpelling, same_kind, begins, first, next_token}
use Rattle.grammar_algebra.specs.Reading.{reading, mapped, ◌>>=◌}
use Rattle.grammar_algebra.proofs.Laws.{begins-append, apart_stops, many_start, many_stop}
use Rattle.parse_expressions.proofs.FirstItem.{with_part}
use Rattle.grammar_sql.specs.Sql.{rules}
use Rattle.grammar_sql.specs.Trees.{G}
use Rattle.grammar_sql.specs.Expressions.{constant, literal, primary, prefixed, unary_sign, factor}
use Rattle.grammar_sql.specs.Expressions.{chain, operator, link_by, links_by, chain_by, term, sum}
use Rattle.grammar_sql.specs.Expressions.{comparison_sign, comparison, compared, tested, in_word}
use Rattle.grammar_sql.specs.Expressions.{among, predicate_part, predicate, not_word, negation}
use Rattle.grammar_sql.specs.Expressions.{conjunction, expr}

-- ---- a literal is one token

-- Each spelling of the grammar is one token, by its form.
abbrev is_one_token : {A : Type 0} → G A → Bool
is_one_token (token kind) = true
is_one_token (nested opening r closing) = false
is_one_token (both g h) = false
is_one_token (either g h) = is_one_token g && is_one_token h
is_one_token (optional g) = false
is_one_token (many g) = false
is_one_token (staged item next stage) = false
is_one_token (map_to f g) = is_one_token g

-- A tree is read, of one token.
abbrev ReadsOne : {A : Type 0} → ℕ → G A → List Token → Type 0
ReadsOne n g ts = (x : _) × (reading rules n g ts ≡ Ok (x, drop 1 ts))

of_either : {A : Type 0} (n : ℕ) (g h : G A) (ts : List Token) (c : Bool) → begins (first g) ts ≡ c
    → (c ≡ true → ReadsOne n g ts) → (c ≡ false → ReadsOne n h ts) → ReadsOne n (either g h) ts
of_either n g h ts true e left right = let p = left refl in
    (p.0, ap (λ z. cond z (reading rules n g ts) (reading rules n h ts)) e ∙ p.1)
of_either n g h ts false e left right = let p = right refl in
    (p.0, ap (λ z. cond z (reading rules n g ts) (reading rules n h ts)) e ∙ p.1)

reads_one : {A : Type 0} (n : ℕ) (g : G A) (ts : List Token) → is_one_token g ≡ true →
    begins (first g) ts ≡ true → ReadsOne n g ts
reads_one n (token kind) ts o b =
    (next_token ts, ap (λ z. cond z (Ok (next_token ts, drop 1 ts)) (Err (NoSpelling ts))) b)
reads_one n (nested opening r closing) ts o b = absurd (cc)
reads_one n (both g h) ts o b = absurd (cc)
reads_one n (either g h) ts o b =
    let each = and_parts (is_one_token g) (is_one_token h) o in
    of_either n g h ts (begins (first g) ts) refl (reads_one n g ts each.0)
    (λ no. reads_one n h ts each.1 (ap (λ z. z || begins (first h) ts) (sym no) ∙
    sym (begins-append (first g) (first h) ts) ∙ b))
reads_one n (optional g) ts o b = absurd (cc)
reads_one n (many g) ts o b = absurd (cc)
reads_one n (staged item next stage) ts o b = absurd (cc)
reads_one n (map_to f g) ts o b = let p = reads_one n g ts o b in (f p.0, ap (mapped f) p.1)

literal_is_one : is_one_token literal ≡ true
unfolding literal constant
literal_is_one = refl

-- ---- levels that add nothing

abbrev as_chain : Outcome (Expr × List Link) → Outcome Expr
as_chain o = o >>= λ p. Ok (chain p.0.0 p.0.1, p.1)

chain_alone : (l : ChainLevel) (operand : G Expr) (n : ℕ) (ts next : List Token) (x : Expr) →
    reading rules n operand ts ≡ Ok (x, next)
    → begins (first (link_by l operand)) next ≡ false →
    reading rules n (chain_by l operand) ts ≡ Ok (x, next)
chain_alone l operand n ts next x r stop =
    ap (λ (z : Outcome Expr). as_chain (z >>= λ p. with_part p.0
    (reading rules n (links_by l operand) p.1))) r
    ∙ ap (λ (z : Outcome (List Link)). as_chain (with_part x z))
    (sym (many_start rules (reading rules n (links_by l operand) next)) ∙
    many_stop rules n (link_by l operand) [] next stop)

prefixed_alone : (prefix : G (Operation × Anchor)) (g : G Expr) (n : ℕ) (ts next : List Token)
    (x : Expr) → begins (first prefix) ts ≡ false
    → reading rules n g ts ≡ Ok (x, next) → reading rules n
    (map_to (λ p. prefixed p.0 p.1) (both (optional prefix) g)) ts ≡ Ok (x, next)
prefixed_alone prefix g n ts next x none r = rw none (rw r refl)

predicate_alone : (n : ℕ) (ts next : List Token) (x : Expr) →
    reading rules n sum ts ≡ Ok (x, next) → begins (first predicate_part) next ≡ false
    → reading rules n predicate ts ≡ Ok (x, next)
unfolding predicate
predicate_alone n ts next x r stop = rw r (rw stop refl)

-- ---- all levels

abbrev pub closers : List TokenKind
closers = kind.Sign s.Comma ∷ kind.Sign s.RightParen ∷ []

sum_alone : (n : ℕ) (ts next : List Token) (x : Expr) → begins (first literal) ts ≡ true →
    begins closers next ≡ true
    → reading rules n primary ts ≡ Ok (x, next) → reading rules n sum ts ≡ Ok (x, next)
unfolding same_kind sum term factor unary_sign operator literal constant
sum_alone n ts next x b c r =
    chain_alone level.Additive term n ts next x
    (chain_alone level.Multiplicative factor n ts next x
    (prefixed_alone unary_sign primary n ts next x
    (apart_stops (first literal) (first unary_sign) ts refl b) r)
    (apart_stops closers (first (link_by level.Multiplicative factor)) next refl c))
    (apart_stops closers (first (link_by level.Additive term)) next refl c)

expr_alone : (n : ℕ) (ts next : List Token) (x : Expr) → begins (first literal) ts ≡ true →
    begins closers next ≡ true
    → reading rules n primary ts ≡ Ok (x, next) → reading rules n expr ts ≡ Ok (x, next)
unfolding same_kind expr conjunction negation not_word operator literal constant comparison_sign
    comparison compared tested in_word among predicate_part
expr_alone n ts next x b c r =
    chain_alone level.Or conjunction n ts next x
    (chain_alone level.And negation n ts next x
    (prefixed_alone not_word predicate n ts next x
    (apart_stops (first literal) (first not_word) ts refl b)
    (predicate_alone n ts next x (sum_alone n ts next x b c r)
    (apart_stops closers (first predicate_part) next refl c)))
    (apart_stops closers (first (link_by level.And negation)) next refl c))
    (apart_stops closers (first (link_by level.Or conjunction)) next refl c)

literal_here : (n : ℕ) (ts : List Token) → begins (first literal) ts ≡ true
    → reading rules n primary ts ≡ mapped (λ p. tree.Literal p.1 p.0) (reading rules n literal ts)
unfolding primary
literal_here n ts b = rw b refl

pub lone_literal : (n : ℕ) (ts : List Token) → begins (first literal) ts ≡ true →
    begins closers (drop 1 ts) ≡ true
    → reading rules n expr ts ≡ mapped (λ p. tree.Literal p.1 p.0) (reading rules n literal ts)
lone_literal n ts b c =
    let one = reads_one n literal ts literal_is_one b in
    let read : mapped (λ (p : Literal × Anchor). tree.Literal p.1 p.0) (reading rules n literal ts)
    ≡ Ok (tree.Literal one.0.1 one.0.0, drop 1 ts) =
    ap (mapped (λ (p : Literal × Anchor). tree.Literal p.1 p.0)) one.1 in
    expr_alone n ts (drop 1 ts) (tree.Literal one.0.1 one.0.0) b c (literal_here n ts b ∙ read) ∙
    sym read
