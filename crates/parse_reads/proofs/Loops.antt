-- What a loop has once a next part is read and put to those before it.
use Rattle.std.proofs.Common.{◌≡◌, ℕ, ◌<◌, Bool, true, false, cond, List, [], ◌∷◌, ◌++◌, length}
use Rattle.std.proofs.Common.{drop, Ok, Err, ap, sym}
use Rattle.sql_lex.specs.declared.token.TokenKind.{TokenKind}
use Rattle.sql_lex.specs.declared.token.Token.{Token}
use Rattle.grammar_algebra.specs.Grammar.{many, both, token, map_to}
use Rattle.grammar_algebra.specs.Notation.{joined}
use Rattle.grammar_algebra.specs.Reading.{Outcome, first, nullable, begins, reading, with_front}
use Rattle.grammar_algebra.specs.Reading.{mapped}
use Rattle.grammar_algebra.specs.Reads.{Reads}
use Rattle.grammar_algebra.specs.declared.fault.ParseError.{ParseError}
use Rattle.grammar_algebra.specs.declared.fault.ParseError.TheVariants as error
use Rattle.grammar_algebra.proofs.Laws.{each_step, each_smaller, each_err, joined_step, joined_err}
use Rattle.grammar_algebra.proofs.Laws.{after_step, after_smaller, after_err}
use Rattle.grammar_sql.specs.Trees.{G}
use Rattle.grammar_sql.specs.Sql.{rules}

-- what was read, where its tree is changed
pub was_read : {A B : Type 0} (f : A → B) (o : Outcome A) (y : B) (rest : List Token) →
    mapped f o ≡ Ok (y, rest) → (x : A) × ((o ≡ Ok (x, rest)) × (y ≡ f x))
was_read {A} {B} f (Ok (x, next)) y rest e =
    let same : ◌≡◌ {A = B × List Token} (f x, next) (y, rest) = cc in
    (x, (ap (λ z. Ok (x, z.1)) same, sym (ap (λ z. z.0) same)))
was_read f (Err fault) y rest e = absurd (cc)

-- why nothing was read, where the tree would be changed
pub was_refused : {A B : Type 0} (f : A → B) (o : Outcome A) (e : ParseError) (rest : List Token) →
    Reads (mapped f o) (Err e) rest → Reads o (Err e) rest
was_refused f o error.NoMemory rest r = tt
was_refused f (Ok p) error.NoStatement rest r = absurd (cc)
was_refused f (Ok p) error.TooDeep rest r = absurd (cc)
was_refused f (Err fault) error.NoStatement rest r = cc
was_refused f (Err fault) error.TooDeep rest r = cc

-- an item at the very place: `while` the item begins
pub put_step : {A : Type 0} (n : ℕ) (g : G A) → nullable g ≡ false → (found found' : List A)
    (ts next : List Token) (b : Bool) (whole : Outcome (List A))
    → with_front found (reading rules n (many g) ts) ≡ whole → b ≡ begins (first g) ts → b ≡ true
    → mapped (λ x. found ++ x ∷ []) (reading rules n g ts) ≡ Ok (found', next)
    → with_front found' (reading rules n (many g) next) ≡ whole
put_step n g nn found found' ts next b whole inv eb tb r =
    let p = was_read (λ x. found ++ x ∷ []) (reading rules n g ts) found' next r in
    each_step rules n g nn found found' ts next p.0 b whole inv eb tb p.1.0 p.1.1

pub put_smaller : {A B : Type 0} (n : ℕ) (g : G A) → nullable g ≡ false → (f : A → B)
    (ts next : List Token) (y : B) → mapped f (reading rules n g ts) ≡ Ok (y, next)
    → length next < length ts
put_smaller n g nn f ts next y r =
    let p = was_read f (reading rules n g ts) y next r in
    each_smaller rules n g nn ts next p.0 p.1.0

pub put_err : {A B : Type 0} (n : ℕ) (g : G A) (f : A → B) (found : List A)
    (ts rest : List Token) (b : Bool) (whole : Outcome (List A)) (e : ParseError)
    → with_front found (reading rules n (many g) ts) ≡ whole → b ≡ begins (first g) ts → b ≡ true
    → Reads (mapped f (reading rules n g ts)) (Err e) rest → Reads whole (Err e) rest
put_err n g f found ts rest b whole e inv eb tb r =
    each_err rules n g found ts rest b whole e inv eb tb
    (was_refused f (reading rules n g ts) e rest r)

-- a list at the very place, put to those before it: `while` the list begins
pub append_step : {A : Type 0} (n : ℕ) (g : G (List A)) → nullable g ≡ false
    → (found found' : List A) (ts next : List Token) (b : Bool) (whole : Outcome (List A))
    → with_front found (reading rules n (map_to joined (many g)) ts) ≡ whole
    → b ≡ begins (first g) ts → b ≡ true
    → mapped (λ xs. found ++ xs) (reading rules n g ts) ≡ Ok (found', next)
    → with_front found' (reading rules n (map_to joined (many g)) next) ≡ whole
append_step n g nn found found' ts next b whole inv eb tb r =
    let p = was_read (λ xs. found ++ xs) (reading rules n g ts) found' next r in
    joined_step rules n g nn found found' ts next p.0 b whole inv eb tb p.1.0 p.1.1

pub append_err : {A B : Type 0} (n : ℕ) (g : G (List A)) (f : List A → B) (found : List A)
    (ts rest : List Token) (b : Bool) (whole : Outcome (List A)) (e : ParseError)
    → with_front found (reading rules n (map_to joined (many g)) ts) ≡ whole
    → b ≡ begins (first g) ts → b ≡ true
    → Reads (mapped f (reading rules n g ts)) (Err e) rest → Reads whole (Err e) rest
append_err n g f found ts rest b whole e inv eb tb r =
    joined_err rules n g found ts rest b whole e inv eb tb
    (was_refused f (reading rules n g ts) e rest r)

-- an item after a word: `while` the word is eaten
pub put_after_step : {A : Type 0} (n : ℕ) (kind : TokenKind) (h : G A) (found found' : List A)
    (ts ts1 next : List Token) (b : Bool) (whole : Outcome (List A))
    → with_front found (reading rules n (many (map_to (λ p. p.1) (both (token kind) h))) ts) ≡ whole
    → b ≡ begins (kind ∷ []) ts → b ≡ true → ts1 ≡ cond b (drop 1 ts) ts
    → mapped (λ x. found ++ x ∷ []) (reading rules n h ts1) ≡ Ok (found', next)
    → with_front found' (reading rules n (many (map_to (λ p. p.1) (both (token kind) h))) next) ≡
    whole
put_after_step n kind h found found' ts ts1 next b whole inv eb tb e1 r =
    let p = was_read (λ x. found ++ x ∷ []) (reading rules n h ts1) found' next r in
    after_step rules n kind h found found' ts ts1 next p.0 b whole inv eb tb e1 p.1.0 p.1.1

pub put_after_smaller : {A B : Type 0} (n : ℕ) (kind : TokenKind) (h : G A) (f : A → B)
    (ts ts1 next : List Token) (y : B) (b : Bool)
    → b ≡ begins (kind ∷ []) ts → b ≡ true → ts1 ≡ cond b (drop 1 ts) ts
    → mapped f (reading rules n h ts1) ≡ Ok (y, next) → length next < length ts
put_after_smaller n kind h f ts ts1 next y b eb tb e1 r =
    let p = was_read f (reading rules n h ts1) y next r in
    after_smaller rules n kind h ts ts1 next p.0 b eb tb e1 p.1.0

pub put_after_err : {A B : Type 0} (n : ℕ) (kind : TokenKind) (h : G A) (f : A → B)
    (found : List A) (ts ts1 rest : List Token) (b : Bool) (whole : Outcome (List A))
    (e : ParseError)
    → with_front found (reading rules n (many (map_to (λ p. p.1) (both (token kind) h))) ts) ≡ whole
    → b ≡ begins (kind ∷ []) ts → b ≡ true → ts1 ≡ cond b (drop 1 ts) ts
    → Reads (mapped f (reading rules n h ts1)) (Err e) rest → Reads whole (Err e) rest
put_after_err n kind h f found ts ts1 rest b whole e inv eb tb e1 r =
    after_err rules n kind h found ts ts1 rest b whole e inv eb tb e1
    (was_refused f (reading rules n h ts1) e rest r)
