use Rattle.std.proofs.Common.{◌≡◌, ◌∙◌, ◌++◌, ◌∷◌, [], List, length, sym, ap, arith, length-drop}
use Rattle.std.proofs.Common.{drop, subst, rules}
use Rattle.sql_lex.specs.declared.token.Token.{Token}
use Rattle.sql_lex.specs.declared.token.Lexeme.TheVariants as lexeme
use Rattle.sql_lex.specs.declared.position.Position.{Position}
use Rattle.sql_lex.specs.Places.{origin}
use Rattle.sql_lex.specs.Tokens.{token_at, AreTokens, Lexing}
use Rattle.sql_lex.proofs.Loop.{Moves, gap_moves, token_moves, cut_is, gap_ahead, token_ahead}
use Rattle.sql_lex.proofs.Loop.{bad_ahead, gap_passed, token_passed, bad_passed, so_far_all}
use Rattle.sql_lex.proofs.Spacing.{spans}
use Rattle.sql_lex.proofs.lexer.tokens.Goals as goal

pub slice_bounds-past-end : goal.slice_bounds-past-end
slice_bounds-past-end c =
    let at = c.loop-position.position.at in
    cut_is c.args.bytes.now at _ (gap_moves _ _
    (gap_ahead c.args.bytes.now at _ _ c.in_ok-width.ensures c.in-Gap.is))

pub loop-position-smaller-in-Gap : goal.loop-position-smaller-in-Gap
loop-position-smaller-in-Gap c =
    let at = c.loop-position.position.at in
    let m : Moves (drop at c.args.bytes.now) c.in-Gap.width =
    gap_moves _ _ (gap_ahead c.args.bytes.now at _ _ c.in_ok-width.ensures c.in-Gap.is) in
    omega (
      arith,
      m.long,
      c.past-position.ensures.at,
      cut_is c.args.bytes.now at _ m,
      length-drop at
          c.args.bytes.now,
    )

pub loop-position-preserved-in-Gap : goal.loop-position-preserved-in-Gap
loop-position-preserved-in-Gap c =
    let ahead = gap_ahead c.args.bytes.now c.loop-position.position.at _ _ c.in_ok-width.ensures
    c.in-Gap.is in
    gap_passed _ _ _ _ _ c.loop-position.invariant ahead c.past-position.ensures.is
    c.past-position.ensures.at c.past-position.ensures.line c.past-position.ensures.column

pub token_at-requires : goal.token_at-requires
token_at-requires c =
    let at = c.loop-position.position.at in
    let m : Moves (drop at c.args.bytes.now) c.in-Token.width =
    token_moves _ _ _ (token_ahead c.args.bytes.now at _ _ _ c.in_ok-width.ensures
    c.in-Token.is) in
    omega (arith, m.within, length-drop at c.args.bytes.now)

pub slice_bounds-past-end-in-Token : goal.slice_bounds-past-end-in-Token
slice_bounds-past-end-in-Token c =
    let at = c.loop-position.position.at in
    cut_is c.args.bytes.now at _ (token_moves _ _ _
    (token_ahead c.args.bytes.now at _ _ _ c.in_ok-width.ensures c.in-Token.is))

pub loop-position-smaller-in-Token : goal.loop-position-smaller-in-Token
loop-position-smaller-in-Token c =
    let at = c.loop-position.position.at in
    let m : Moves (drop at c.args.bytes.now) c.in-Token.width =
    token_moves _ _ _ (token_ahead c.args.bytes.now at _ _ _ c.in_ok-width.ensures
    c.in-Token.is) in
    omega (
      arith,
      m.long,
      c.past-position-in-Token.ensures.at,
      cut_is c.args.bytes.now at _ m,
      length-drop at c.args.bytes.now,
    )

-- the token that is made, at the number of tokens before
added : (list more : List Token) (t u : Token) → more ≡ list ++ t ∷ [] → t ≡ u →
    more ≡ list ++ u ∷ []
added list more t u e is = e ∙ ap (λ (x : Token). list ++ x ∷ []) is

pub loop-position-preserved-in-Token : goal.loop-position-preserved-in-Token
loop-position-preserved-in-Token c =
    let ahead = token_ahead c.args.bytes.now c.loop-position.position.at _ _ _ c.in_ok-width.ensures
    c.in-Token.is in
    let made : c.token_at.result ≡ token_at c.in-Token.lexeme (length c.loop-position.list.items)
    c.loop-position.position c.in-Token.width = c.token_at.ensures ∙
    ap (λ n. token_at c.in-Token.lexeme n c.loop-position.position c.in-Token.width)
    (search rules) in
    token_passed _ _ _ _ _ _ _ c.loop-position.invariant ahead
    (added _ _ _ _ c.in_ok-push-in-Token.ensures.items made) c.past-position-in-Token.ensures.is
    c.past-position-in-Token.ensures.at c.past-position-in-Token.ensures.line
    c.past-position-in-Token.ensures.column

pub loop-position-preserved : goal.loop-position-preserved
loop-position-preserved c =
    let ahead = bad_ahead c.args.bytes.now c.loop-position.position.at _ c.in_ok-width.ensures
    c.in-Bad.is in
    let made : c.token_at-in-Bad.result ≡ token_at lexeme.Bad (length c.loop-position.list.items)
    c.loop-position.position 1 = c.token_at-in-Bad.ensures ∙
    ap (λ n. token_at lexeme.Bad n c.loop-position.position 1) (search rules) in
    bad_passed _ _ _ _ _ c.loop-position.invariant c.loop-position-test.true ahead
    (added _ _ _ _ c.in_ok-push-in-Bad.ensures.items made) c.past-position-in-Bad.ensures.is
    c.past-position-in-Bad.ensures.at c.past-position-in-Bad.ensures.line
    c.past-position-in-Bad.ensures.column

pub returns : goal.returns
returns c =
    let h = so_far_all c.args.bytes.now _ _ c.loop-position.invariant c.loop-position-test.false in
    let is = c.of.ensures in
    let Whole : List Token → Type 0 = λ ts. AreTokens ts 0 origin c.args.bytes.now in (
      subst Whole (sym (ap (λ (t : Lexing). t.tokens) is)) h.1,
      ap (λ (t : Lexing). t.end_line) is ∙ ap (λ (p : Position). p.line) h.0,
      ap (λ (t : Lexing). t.end_column) is ∙ ap (λ (p : Position). p.column) h.0,
    )

pub of-requires : goal.of-requires
of-requires c =
    let h = so_far_all c.args.bytes.now _ _ c.loop-position.invariant c.loop-position-test.false in
    spans _ 0 origin c.args.bytes.now h.1
