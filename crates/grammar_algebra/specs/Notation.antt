-- Signs and words for grammars, so that a rule reads as it is printed.
use Rattle.std.specs.Prelude.{ℕ, Bool, true, false, List, [], ◌∷◌, ◌++◌, Option, Some, None, ℤ, pos}
use Rattle.sql_lex.specs.declared.token.Lexeme.{Lexeme}
use Rattle.sql_lex.specs.declared.token.Lexeme.TheVariants as lexeme
use Rattle.sql_lex.specs.declared.token.TokenKind.TheVariants as kind
use Rattle.sql_lex.specs.declared.token.Token.{Token}
use Rattle.sql_lex.specs.declared.word.Word.{Word}
use Rattle.sql_lex.specs.declared.sign.Sign.{Sign}
use Rattle.grammar_algebra.specs.Grammar.{Grammar, token, both, either, many, map_to}

-- what a token spells
abbrev pub name_of : Lexeme → List ℕ
name_of (lexeme.Name name) = name
name_of _ = []

-- the characters of the text that a token spells; none for another token
abbrev pub text_of : Lexeme → List ℕ
text_of (lexeme.Text text) = text
text_of _ = []

-- the whole number that a token spells; 0 for another token
abbrev pub number_of : Lexeme → ℤ
number_of (lexeme.Number n) = n
number_of _ = pos 0

module _ {R : Type 0} {Tree : R → Type 0} where
  -- ---- tokens

  -- a reserved word
  abbrev pub word : Word → Grammar R Tree Token
  word w = token (kind.Word w)

  -- a sign
  abbrev pub sign : Sign → Grammar R Tree Token
  sign s = token (kind.Sign s)

  -- any name
  abbrev pub name : Grammar R Tree Token
  name = token kind.Name

  -- any whole number
  abbrev pub number : Grammar R Tree Token
  number = token kind.Number

  -- any text in quotes
  abbrev pub text : Grammar R Tree Token
  text = token kind.Text

  -- ---- parts

  -- one and then the other
  infixr 13 ◌~◌
  abbrev pub ◌~◌ : {A B : Type 0} → Grammar R Tree A → Grammar R Tree B → Grammar R Tree (A × B)
  g ~ h = both g h

  -- the same, where only the second leaves a tree
  infixr 13 ◌~>◌
  abbrev pub ◌~>◌ : {A B : Type 0} → Grammar R Tree A → Grammar R Tree B → Grammar R Tree B
  g ~> h = map_to (λ p. p.1) (both g h)

  -- the same, where only the first leaves a tree
  infixr 13 ◌<~◌
  abbrev pub ◌<~◌ : {A B : Type 0} → Grammar R Tree A → Grammar R Tree B → Grammar R Tree A
  g <~ h = map_to (λ p. p.0) (both g h)

  -- the one or the other
  infixr 11 ◌or◌
  abbrev pub ◌or◌ : {A : Type 0} → Grammar R Tree A → Grammar R Tree A → Grammar R Tree A
  g or h = either g h

  -- the tree that a grammar leaves, made of what it spells
  infixr 12 ◌=>◌
  abbrev pub ◌=>◌ : {A B : Type 0} → (A → B) → Grammar R Tree A → Grammar R Tree B
  f => g = map_to f g

  -- a part or more, with a sign between two
  abbrev pub list_by : {A : Type 0} → Sign → Grammar R Tree A → Grammar R Tree (List A)
  list_by s g = map_to (λ p. p.0 ∷ p.1) (both g (many (map_to (λ p. p.1) (both (sign s) g))))

-- whether an optional part stands
abbrev pub is_there : {A : Type 0} → Option A → Bool
is_there (Some x) = true
is_there None = false

-- what may follow a tree, and changes it
abbrev pub followed : {A B : Type 0} → (A → B) → Option (A → B) → A → B
followed alone None x = alone x
followed alone (Some f) x = f x

-- the lists, one after another
abbrev pub joined : {A : Type 0} → List (List A) → List A
joined [] = []
joined (xs ∷ more) = xs ++ joined more
