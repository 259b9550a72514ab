-- What the grammar spells is in order: in each compound statement the handlers stand after all
-- other declarations.
use Rattle.std.proofs.Common.{◌≡◌, refl, sym, ap, ◌∙◌, subst, inl, inr, ℕ, zero, suc, Bool, true}
use Rattle.std.proofs.Common.{false, ◌&&◌, List, [], ◌∷◌, map, Option, Some, None}
use Rattle.syntax_trees.specs.declared.anchor.Anchor.{Anchor}
use Rattle.syntax_trees.specs.declared.anchor.Ident.{Ident}
use Rattle.statement_trees.specs.declared.statement.Branch.{Branch}
use Rattle.statement_trees.specs.declared.statement.Case.{Case}
use Rattle.statement_trees.specs.declared.statement.Declaration.{Declaration, out-Declaration}
use Rattle.statement_trees.specs.declared.statement.Declaration.TheOpen.{Declaration-F}
use Rattle.statement_trees.specs.declared.statement.Declaration.TheViews.{outs-Variables}
use Rattle.statement_trees.specs.declared.statement.Declaration.TheViews.{outs-Condition}
use Rattle.statement_trees.specs.declared.statement.Declaration.TheViews.{outs-Cursor, outs-Handler}
use Rattle.statement_trees.specs.declared.statement.Block.{Block}
use Rattle.statement_trees.specs.declared.statement.CreateFunction.{CreateFunction}
use Rattle.statement_trees.specs.declared.statement.CreateProcedure.{CreateProcedure}
use Rattle.statement_trees.specs.declared.statement.Handler.{Handler}
use Rattle.statement_trees.specs.declared.statement.If.{If}
use Rattle.statement_trees.specs.declared.statement.Labelled.{Labelled}
use Rattle.statement_trees.specs.declared.statement.Stmt.{Stmt}
use Rattle.statement_trees.specs.declared.statement.Stmt.TheVariants as stmt_of
use Rattle.statement_trees.specs.declared.statement.Structure.{Structure}
use Rattle.sql_lex.specs.declared.token.TokenKind.{TokenKind}
use Rattle.sql_lex.specs.declared.token.TokenKind.TheVariants as kind
use Rattle.sql_lex.specs.declared.token.Token.{Token}
use Rattle.sql_lex.specs.declared.word.Word.TheVariants as w
use Rattle.grammar_algebra.specs.declared.stage.Stage.{Stage}
use Rattle.grammar_algebra.specs.declared.stage.Stage.TheVariants.{First, Second, Third}
use Rattle.grammar_algebra.specs.Grammar.{Inner, Spells, Each, EachFrom, map_to, inside}
use Rattle.grammar_algebra.specs.Notation.{◌~◌}
use Rattle.grammar_sql.specs.declared.structure_word.StructureWord.{StructureWord}
use Rattle.grammar_sql.specs.declared.structure_word.StructureWord.TheVariants as structure_word
use Rattle.grammar_sql.specs.Trees.{G, Rule, Tree, Body, IfBody, CaseBody, anchor_of, ident}
use Rattle.grammar_sql.specs.Expressions.{expr}
use Rattle.grammar_sql.specs.Queries.{ordered_query}
use Rattle.grammar_sql.specs.Writing.{assignment, insert, update, delete, call, dml}
use Rattle.grammar_sql.specs.Conditions.{signal, resignal, get_diagnostics}
use Rattle.grammar_sql.specs.Statements.{set_word, set_statement, select_into, open_word}
use Rattle.grammar_sql.specs.Statements.{open_statement, close_word, close_statement, fetch}
use Rattle.grammar_sql.specs.Statements.{leave_word, leave_statement, iterate_word}
use Rattle.grammar_sql.specs.Statements.{iterate_statement, return_word, return_statement, storing}
use Rattle.grammar_sql.specs.Statements.{cursor_statement, condition_statement, leaving}
use Rattle.grammar_sql.specs.Statements.{simple_statement, construct, structure, structures}
use Rattle.grammar_sql.specs.Statements.{labelled, labelled_block, if_construct, if_of}
use Rattle.grammar_sql.specs.Statements.{if_statement, case_construct, case_of, case_statement}
use Rattle.grammar_sql.specs.Statements.{stmt, ended, statements, body, body_after, branch}
use Rattle.grammar_sql.specs.Statements.{branch_after, more_branches, branches, otherwise, if_body}
use Rattle.grammar_sql.specs.Statements.{when_branches, case_body, while_body, repeat_body}
use Rattle.grammar_sql.specs.Statements.{for_body}
use Rattle.grammar_sql.specs.Declarations.{named_declaration, named_cursor, variables_of}
use Rattle.grammar_sql.specs.Declarations.{condition_of, cursor_of, handler_of, handler}
use Rattle.grammar_sql.specs.Declarations.{declared_at, declaration as declared, next_stage}
use Rattle.grammar_sql.specs.Declarations.{declarations, block_body, structure_body}
use Rattle.grammar_sql.specs.Definitions.{FunctionParts, ProcedureParts, function_definition}
use Rattle.grammar_sql.specs.Definitions.{create_function, procedure_definition, create_procedure}
use Rattle.grammar_sql.specs.Definitions.{created, create, drop_object, ddl}
use Rattle.grammar_sql.specs.Sql.{explain_word, explain, other_statement, unended, statement, rules}
use Rattle.grammar_order.specs.Ordered.{OrderedDeclaration, handlers_last, handlers_of, all_ordered}
use Rattle.grammar_order.specs.Ordered.{ordered_declarations, is_ordered, order_of_declaration}
use Rattle.grammar_order.specs.Ordered.{order_of_structure, order_of_branch, order_of_if}
use Rattle.grammar_order.specs.Ordered.{order_of_case, order_of_labelled}
use Rattle.grammar_order.proofs.Laws.{create-table-order, create-function-order}
use Rattle.grammar_order.proofs.Laws.{create-procedure-order, drop-order, insert-order}
use Rattle.grammar_order.proofs.Laws.{update-order, delete-order, query-order, explain-order}
use Rattle.grammar_order.proofs.Laws.{call-order, labelled-order, if-order, case-order, set-order}
use Rattle.grammar_order.proofs.Laws.{select-into-order, open-order, close-order, fetch-order}
use Rattle.grammar_order.proofs.Laws.{signal-order, resignal-order, get-diagnostics-order}
use Rattle.grammar_order.proofs.Laws.{leave-order, iterate-order, return-order, block-structure}
use Rattle.grammar_order.proofs.Laws.{loop-structure, while-structure, repeat-structure}
use Rattle.grammar_order.proofs.Laws.{for-structure, variables-declaration, condition-declaration}
use Rattle.grammar_order.proofs.Laws.{cursor-declaration, handler-declaration, block-parts}
use Rattle.grammar_order.proofs.Laws.{branch-parts, case-parts, if-parts, labelled-parts}
use Rattle.grammar_order.proofs.Laws.{handler-parts, function-parts, procedure-parts}

both-true : (a b : Bool) → a ≡ true → b ≡ true → (a && b) ≡ true
both-true true b p q = q
both-true false b p q = absurd cc

abbrev Statements : List Stmt → Type 0
Statements ss = all_ordered (map is_ordered ss) ≡ true

abbrev Branches : List Branch → Type 0
Branches bs = all_ordered (map order_of_branch bs) ≡ true

-- the trees of what stands in constructs are in order
abbrev RuleOrdered : (r : Rule) → Tree r → Type 0
RuleOrdered (Body k) x = order_of_structure x ≡ true
RuleOrdered IfBody x = Branches x.0 × Statements x.1
RuleOrdered CaseBody x = Branches x.1.0 × Statements x.1.1
RuleOrdered _ x = Unit {0}

abbrev Keeps : Inner Rule Tree → Type 0
Keeps inner = (r : Rule) (x : Tree r) (ts rest : List Token) → inner r x ts rest → RuleOrdered r x

abbrev is-third : Stage → Bool
is-third First = false
is-third Second = false
is-third Third = true

abbrev stage-by : Stage → Declaration-F Declaration Stmt Structure Block Branch Case CreateFunction
    CreateProcedure Handler If Labelled → Stage
stage-by stage x = elim x [
  | Declaration-F.Variables x ↦ stage
  | Declaration-F.Condition x ↦ stage
  | Declaration-F.Cursor x ↦ Second
  | Declaration-F.Handler x ↦ Third
]

-- a declaration at its stage: after a handler stand handlers alone
record InTurn (stage : Stage) (x : Declaration) : Type 0 where
  next : is-third (next_stage stage x) ≡ (order_of_declaration x).is_handler
  late : is-third stage ≡ true → (order_of_declaration x).is_handler ≡ true
  ordered : (order_of_declaration x).is_ordered ≡ true

module _ (inner : Inner Rule Tree) (keeps : Keeps inner) where
  made : {A : Type 0} (f : A → Stmt) (g : G A) (x : Stmt) (ts rest : List Token) →
      ((y : A) → is_ordered (f y) ≡ true) → Spells inner (map_to f g) x ts rest →
      is_ordered x ≡ true
  made f g x ts rest h (y, e, p) = ap is_ordered e ∙ h y

  -- ---- statements that hold no statement

  dml-spelled : (x : Stmt) (ts rest : List Token) → Spells inner dml x ts rest → is_ordered x ≡ true
  unfolding dml
  dml-spelled x ts rest (inl p) = made (λ y. stmt_of.Insert y) insert x ts rest insert-order p
  dml-spelled x ts rest (inr (inl p)) = made (λ y. stmt_of.Update y) update x ts rest update-order p
  dml-spelled x ts rest (inr (inr p)) = made (λ y. stmt_of.Delete y) delete x ts rest delete-order p

  storing-spelled : (x : Stmt) (ts rest : List Token) → Spells inner storing x ts rest →
      is_ordered x ≡ true
  unfolding storing set_statement
  storing-spelled x ts rest (inl p) = dml-spelled x ts rest p
  storing-spelled x ts rest (inr (inl p)) = made (λ y. stmt_of.Call y) call x ts rest call-order p
  storing-spelled x ts rest (inr (inr (inl p))) =
      made (λ y. stmt_of.Set y.0 y.1) (set_word ~ assignment) x ts rest (λ y. set-order y.0 y.1) p
  storing-spelled x ts rest (inr (inr (inr p))) =
      made (λ y. stmt_of.SelectInto y) select_into x ts rest select-into-order p

  cursor-spelled : (x : Stmt) (ts rest : List Token) → Spells inner cursor_statement x ts rest →
      is_ordered x ≡ true
  unfolding cursor_statement open_statement close_statement
  cursor-spelled x ts rest (inl p) = made (λ y. stmt_of.Open y.0 y.1) (open_word ~ ident) x ts rest
      (λ y. open-order y.0 y.1) p
  cursor-spelled x ts rest (inr (inl p)) = made (λ y. stmt_of.Close y.0 y.1) (close_word ~ ident) x
      ts rest (λ y. close-order y.0 y.1) p
  cursor-spelled x ts rest (inr (inr p)) = made (λ y. stmt_of.Fetch y) fetch x ts rest fetch-order p

  condition-spelled : (x : Stmt) (ts rest : List Token) →
      Spells inner condition_statement x ts rest → is_ordered x ≡ true
  unfolding condition_statement
  condition-spelled x ts rest (inl p) = made (λ y. stmt_of.Signal y) signal x ts rest signal-order p
  condition-spelled x ts rest (inr (inl p)) =
      made (λ y. stmt_of.Resignal y) resignal x ts rest resignal-order p
  condition-spelled x ts rest (inr (inr p)) =
      made (λ y. stmt_of.GetDiagnostics y) get_diagnostics x ts rest get-diagnostics-order p

  leaving-spelled : (x : Stmt) (ts rest : List Token) → Spells inner leaving x ts rest →
      is_ordered x ≡ true
  unfolding leaving leave_statement iterate_statement return_statement
  leaving-spelled x ts rest (inl p) = made (λ y. stmt_of.Leave y.0 y.1) (leave_word ~ ident) x ts
      rest (λ y. leave-order y.0 y.1) p
  leaving-spelled x ts rest (inr (inl p)) = made (λ y. stmt_of.Iterate y.0 y.1)
      (iterate_word ~ ident) x ts rest (λ y. iterate-order y.0 y.1) p
  leaving-spelled x ts rest (inr (inr p)) = made (λ y. stmt_of.Return y.0 y.1) (return_word ~ expr)
      x ts rest (λ y. return-order y.0 y.1) p

  simple-spelled : (x : Stmt) (ts rest : List Token) → Spells inner simple_statement x ts rest →
      is_ordered x ≡ true
  unfolding simple_statement
  simple-spelled x ts rest (inl p) = storing-spelled x ts rest p
  simple-spelled x ts rest (inr (inl p)) = cursor-spelled x ts rest p
  simple-spelled x ts rest (inr (inr (inl p))) = condition-spelled x ts rest p
  simple-spelled x ts rest (inr (inr (inr p))) = leaving-spelled x ts rest p

  -- ---- constructs

  structure-spelled : (k : StructureWord) (x : (Anchor × Structure) × Option Ident)
      (ts rest : List Token) → Spells inner (structure k) x ts rest →
      order_of_structure x.0.1 ≡ true
  unfolding structure construct
  structure-spelled k x ts rest (middle, (y, e, (first, last, takes, within, passes)), end) =
      ap (λ (z : Anchor × Structure). order_of_structure z.1) e ∙
      keeps (Body k) y.1 first last within

  structures-spelled : (x : (Anchor × Structure) × Option Ident) (ts rest : List Token) →
      Spells inner structures x ts rest → order_of_structure x.0.1 ≡ true
  unfolding structures
  structures-spelled x ts rest (inl p) = structure-spelled structure_word.Begin x ts rest p
  structures-spelled x ts rest (inr (inl p)) = structure-spelled structure_word.Loop x ts rest p
  structures-spelled x ts rest (inr (inr (inl p))) =
      structure-spelled structure_word.While x ts rest p
  structures-spelled x ts rest (inr (inr (inr (inl p)))) =
      structure-spelled structure_word.Repeat x ts rest p
  structures-spelled x ts rest (inr (inr (inr (inr p)))) =
      structure-spelled structure_word.For x ts rest p

  labelled-spelled : (x : Labelled) (ts rest : List Token) → Spells inner labelled x ts rest →
      order_of_labelled x ≡ true
  unfolding labelled
  labelled-spelled x ts rest (q, e, (middle, label, p)) = ap order_of_labelled e ∙
      labelled-parts q.0 q.1.0.0 q.1.0.1 q.1.1 ∙ structures-spelled q.1 middle rest p

  labelled-block-spelled : (x : Labelled) (ts rest : List Token) →
      Spells inner labelled_block x ts rest → order_of_labelled x ≡ true
  unfolding labelled_block
  labelled-block-spelled x ts rest (q, e, (middle, label, p)) =
      ap order_of_labelled e ∙ labelled-parts q.0 q.1.0.0 q.1.0.1 q.1.1 ∙
      structure-spelled structure_word.Begin q.1 middle rest p

  if-spelled : (x : If) (ts rest : List Token) → Spells inner if_statement x ts rest →
      order_of_if x ≡ true
  unfolding if_statement if_construct
  if-spelled x ts rest
      (z, e, (q, e1, (middle, (y, e2, (first, last, takes, within, passes)), end))) =
      let (bs, ss) = keeps IfBody y.1 first last within in
      ap order_of_if (e ∙ ap if_of (e1 ∙ e2)) ∙ if-parts (anchor_of y.0) y.1.0 y.1.1 ∙
      both-true (all_ordered (map order_of_branch y.1.0)) (all_ordered (map is_ordered y.1.1))
      bs ss

  case-spelled : (x : Case) (ts rest : List Token) → Spells inner case_statement x ts rest →
      order_of_case x ≡ true
  unfolding case_statement case_construct
  case-spelled x ts rest
      (z, e, (q, e1, (middle, (y, e2, (first, last, takes, within, passes)), end))) =
      let (bs, ss) = keeps CaseBody y.1 first last within in
      ap order_of_case (e ∙ ap case_of (e1 ∙ e2)) ∙
      case-parts (anchor_of y.0) y.1.0 y.1.1.0 y.1.1.1 ∙
      both-true (all_ordered (map order_of_branch y.1.1.0))
      (all_ordered (map is_ordered y.1.1.1)) bs ss

  stmt-spelled : (x : Stmt) (ts rest : List Token) → Spells inner stmt x ts rest →
      is_ordered x ≡ true
  unfolding stmt
  stmt-spelled x ts rest (inl (y, e, p)) = ap is_ordered e ∙ labelled-order y ∙
      labelled-spelled y ts rest p
  stmt-spelled x ts rest (inr (inl (y, e, p))) = ap is_ordered e ∙ if-order y ∙
      if-spelled y ts rest p
  stmt-spelled x ts rest (inr (inr (inl (y, e, p)))) = ap is_ordered e ∙ case-order y ∙
      case-spelled y ts rest p
  stmt-spelled x ts rest (inr (inr (inr p))) = simple-spelled x ts rest p

  -- ---- lists

  ended-spelled : (x : Stmt) (ts rest : List Token) → Spells inner ended x ts rest →
      is_ordered x ≡ true
  unfolding ended
  ended-spelled x ts rest (q, e, (middle, p, end)) = ap is_ordered e ∙ stmt-spelled q.0 ts middle p

  each-spelled : (xs : List Stmt) (ts rest : List Token) → Each (Spells inner ended) xs ts rest →
      Statements xs
  each-spelled [] ts rest p = refl
  each-spelled (x ∷ xs) ts rest (middle, p, more) =
      both-true (is_ordered x) (all_ordered (map is_ordered xs)) (ended-spelled x ts middle p)
      (each-spelled xs middle rest more)

  statements-spelled : (xs : List Stmt) (ts rest : List Token) →
      Spells inner statements xs ts rest → Statements xs
  unfolding statements
  statements-spelled xs ts rest p = each-spelled xs ts rest p

  body-spelled : (xs : List Stmt) (ts rest : List Token) → Spells inner body xs ts rest →
      Statements xs
  unfolding body
  body-spelled xs ts rest (q, e, (middle, p, more)) =
      ap (λ z. all_ordered (map is_ordered z)) e
      ∙ both-true (is_ordered q.0) (all_ordered (map is_ordered q.1))
      (ended-spelled q.0 ts middle p) (statements-spelled q.1 middle rest more)

  after-spelled : (k : TokenKind) (xs : List Stmt) (ts rest : List Token) →
      Spells inner (body_after k) xs ts rest → Statements xs
  unfolding body_after
  after-spelled k xs ts rest (q, e, (middle, first, p)) =
      ap (λ z. all_ordered (map is_ordered z)) e ∙ body-spelled q.1 middle rest p

  branch-spelled : (x : Branch) (ts rest : List Token) → Spells inner branch x ts rest →
      order_of_branch x ≡ true
  unfolding branch
  branch-spelled x ts rest (q, e, (middle, test, p)) = ap order_of_branch e ∙ branch-parts q.0 q.1 ∙
      after-spelled (kind.Word w.Then) q.1 middle rest p

  branch-after-spelled : (k : TokenKind) (x : Branch) (ts rest : List Token) →
      Spells inner (branch_after k) x ts rest → order_of_branch x ≡ true
  unfolding branch_after
  branch-after-spelled k x ts rest (q, e, (middle, first, p)) = ap order_of_branch e ∙
      branch-spelled q.1 middle rest p

  each-branch : (k : TokenKind) (xs : List Branch) (ts rest : List Token) →
      Each (Spells inner (branch_after k)) xs ts rest → Branches xs
  each-branch k [] ts rest p = refl
  each-branch k (x ∷ xs) ts rest (middle, p, more) =
      both-true (order_of_branch x) (all_ordered (map order_of_branch xs))
      (branch-after-spelled k x ts middle p) (each-branch k xs middle rest more)

  more-branches-spelled : (k : TokenKind) (xs : List Branch) (ts rest : List Token) →
      Spells inner (more_branches k) xs ts rest → Branches xs
  unfolding more_branches
  more-branches-spelled k xs ts rest p = each-branch k xs ts rest p

  branches-spelled : (xs : List Branch) (ts rest : List Token) → Spells inner branches xs ts rest →
      Branches xs
  unfolding branches
  branches-spelled xs ts rest (q, e, (middle, p, more)) =
      ap (λ z. all_ordered (map order_of_branch z)) e
      ∙ both-true (order_of_branch q.0) (all_ordered (map order_of_branch q.1))
      (branch-spelled q.0 ts middle p) (more-branches-spelled (kind.Word w.Elseif) q.1 middle
      rest more)

  when-spelled : (xs : List Branch) (ts rest : List Token) → Spells inner when_branches xs ts rest →
      Branches xs
  unfolding when_branches
  when-spelled xs ts rest (q, e, (middle, p, more)) =
      ap (λ z. all_ordered (map order_of_branch z)) e
      ∙ both-true (order_of_branch q.0) (all_ordered (map order_of_branch q.1))
      (branch-after-spelled (kind.Word w.When) q.0 ts middle p)
      (more-branches-spelled (kind.Word w.When) q.1 middle rest more)

  otherwise-spelled : (xs : List Stmt) (ts rest : List Token) → Spells inner otherwise xs ts rest →
      Statements xs
  unfolding otherwise
  otherwise-spelled xs ts rest (None, e, p) = ap (λ z. all_ordered (map is_ordered z)) e
  otherwise-spelled xs ts rest (Some ys, e, p) = ap (λ z. all_ordered (map is_ordered z)) e ∙
      after-spelled (kind.Word w.Else) ys ts rest p

  -- ---- declarations

  handler-in-turn : (stage : Stage) (x : Declaration) (ts rest : List Token) →
      Spells inner handler x ts rest → InTurn stage x
  unfolding handler
  handler-in-turn stage x ts rest (q, e, (m1, type, (m2, values, p))) =
      let h = handler_of q in
      let is = ap order_of_declaration e ∙ handler-declaration h in
      record {
        next = ap (λ z. is-third (next_stage stage z)) e ∙ ap (λ z. is-third (stage-by stage z))
            (outs-Handler h) ∙ sym (ap (λ (o : OrderedDeclaration). o.is_handler) is);
        late = λ l. ap (λ (o : OrderedDeclaration). o.is_handler) is;
        ordered = ap (λ (o : OrderedDeclaration). o.is_ordered) is ∙
            handler-parts q.0.1 q.0.0 q.1.0 q.1.1 ∙ stmt-spelled q.1.1 m2 rest p;
      }

  other-in-turn : (stage : Stage) (x y : Declaration)
      (f : Declaration-F Declaration Stmt Structure Block Branch Case CreateFunction CreateProcedure
      Handler If Labelled) → x ≡ y → out-Declaration y ≡ f
      → is-third (stage-by stage f) ≡ false → is-third stage ≡ false →
      order_of_declaration y ≡ record { is_handler = false; is_ordered = true } → InTurn stage x
  other-in-turn stage x y f e out by early order =
      let is = ap order_of_declaration e ∙ order in
      record {
        next = ap (λ z. is-third (next_stage stage z)) e ∙
            ap (λ z. is-third (stage-by stage z)) out ∙ by ∙
            sym (ap (λ (o : OrderedDeclaration). o.is_handler) is);
        late = λ l. absurd (apart early l);
        ordered = ap (λ (o : OrderedDeclaration). o.is_ordered) is;
      }
    where
      apart : is-third stage ≡ false → is-third stage ≡ true → ⊥
      apart p q = cc

  item-in-turn : (stage : Stage) (x : Declaration) (ts rest : List Token) →
      Spells inner (declared_at stage) x ts rest → InTurn stage x
  unfolding named_declaration named_cursor
  item-in-turn First x ts rest (inl (q, e, (m, i, inl (v, e1, p)))) =
      other-in-turn First x (variables_of v q.0) _ (e ∙ ap (λ (f : Ident → Declaration). f q.0) e1)
      (outs-Variables _) refl refl (variables-declaration _)
  item-in-turn First x ts rest (inl (q, e, (m, i, inr (inl (v, e1, p))))) =
      other-in-turn First x (condition_of v q.0) _ (e ∙ ap (λ (f : Ident → Declaration). f q.0) e1)
      (outs-Condition _) refl refl (condition-declaration _)
  item-in-turn First x ts rest (inl (q, e, (m, i, inr (inr (v, e1, p))))) =
      other-in-turn First x (cursor_of v q.0) _ (e ∙ ap (λ (f : Ident → Declaration). f q.0) e1)
      (outs-Cursor _) refl refl (cursor-declaration _)
  item-in-turn First x ts rest (inr p) = handler-in-turn First x ts rest p
  item-in-turn Second x ts rest (inl (q, e, p)) = other-in-turn Second x (cursor_of q.1 q.0) _ e
      (outs-Cursor _) refl refl (cursor-declaration _)
  item-in-turn Second x ts rest (inr p) = handler-in-turn Second x ts rest p
  item-in-turn Third x ts rest p = handler-in-turn Third x ts rest p

  declaration-in-turn : (stage : Stage) (x : Declaration) (ts rest : List Token) →
      Spells inner (declared stage) x ts rest → InTurn stage x
  unfolding declared
  declaration-in-turn stage x ts rest (q, e, (m1, first, (r, e1, (m2, p, end)))) =
      subst (InTurn stage) (sym (e ∙ e1)) (item-in-turn stage r.0 m1 m2 p)

  -- after the declarations so far
  turn-last : (seen here next : Bool) (more : List Bool) → (seen ≡ true → here ≡ true) →
      next ≡ here → handlers_last next more ≡ true → handlers_last seen (here ∷ more) ≡ true
  turn-last false here next more late is p = ap (λ b. handlers_last b more) (sym is) ∙ p
  turn-last true here next more late is p =
      both-true here (handlers_last true more) (late refl)
      (ap (λ b. handlers_last b more) (sym (is ∙ late refl)) ∙ p)

  stages-spelled : (stage : Stage) (xs : List Declaration) (ts rest : List Token) →
      EachFrom (λ s. Spells inner (declared s)) next_stage stage xs ts rest
      → (handlers_last (is-third stage) (handlers_of (map order_of_declaration xs)) ≡ true) ×
      (all_ordered (map (λ d. d.is_ordered) (map order_of_declaration xs)) ≡ true)
  stages-spelled First [] ts rest p = (refl, refl)
  stages-spelled Second [] ts rest p = (refl, refl)
  stages-spelled Third [] ts rest p = (refl, refl)
  stages-spelled stage (x ∷ xs) ts rest (middle, p, more) =
      let turn = declaration-in-turn stage x ts middle p in
      let (last, all) = stages-spelled (next_stage stage x) xs middle rest more in (
        turn-last (is-third stage) (order_of_declaration x).is_handler
            (is-third (next_stage stage x)) (handlers_of (map order_of_declaration xs)) turn.late
            turn.next last,
        both-true (order_of_declaration x).is_ordered
            (all_ordered (map (λ (d : OrderedDeclaration). d.is_ordered)
            (map order_of_declaration xs))) turn.ordered all,
      )

  declarations-spelled : (xs : List Declaration) (ts rest : List Token) →
      Spells inner declarations xs ts rest → ordered_declarations (map order_of_declaration xs) ≡
      true
  unfolding declarations
  declarations-spelled xs ts rest p =
      let (last, all) = stages-spelled First xs ts rest p in
      both-true (handlers_last false (handlers_of (map order_of_declaration xs)))
      (all_ordered (map (λ (d : OrderedDeclaration). d.is_ordered)
      (map order_of_declaration xs))) last all

  -- ---- what stands between a word and its END

  block-spelled : (x : Structure) (ts rest : List Token) → Spells inner block_body x ts rest →
      order_of_structure x ≡ true
  unfolding block_body
  block-spelled x ts rest (q, e, (m1, atomic, (m2, ds, ss))) =
      ap order_of_structure e ∙ block-structure _ ∙ block-parts q.0 q.1.0 q.1.1
      ∙ both-true (ordered_declarations (map order_of_declaration q.1.0))
      (all_ordered (map is_ordered q.1.1)) (declarations-spelled q.1.0 m1 m2 ds)
      (statements-spelled q.1.1 m2 rest ss)

  while-spelled : (x : Structure) (ts rest : List Token) → Spells inner while_body x ts rest →
      order_of_structure x ≡ true
  unfolding while_body
  while-spelled x ts rest (q, e, (m, test, p)) = ap order_of_structure e ∙ while-structure q.0 q.1 ∙
      after-spelled (kind.Word w.Do) q.1 m rest p

  repeat-spelled : (x : Structure) (ts rest : List Token) → Spells inner repeat_body x ts rest →
      order_of_structure x ≡ true
  unfolding repeat_body
  repeat-spelled x ts rest (q, e, (m, p, test)) = ap order_of_structure e ∙
      repeat-structure q.0 q.1 ∙ body-spelled q.0 ts m p

  for-spelled : (x : Structure) (ts rest : List Token) → Spells inner for_body x ts rest →
      order_of_structure x ≡ true
  unfolding for_body
  for-spelled x ts rest (q, e, (m1, i, (m2, query, p))) = ap order_of_structure e ∙
      for-structure q.0 q.1.0 q.1.1 ∙ after-spelled (kind.Word w.Do) q.1.1 m2 rest p

  structure-body-spelled : (k : StructureWord) (x : Structure) (ts rest : List Token) →
      Spells inner (structure_body k) x ts rest → order_of_structure x ≡ true
  unfolding structure_body
  structure-body-spelled structure_word.Begin x ts rest p = block-spelled x ts rest p
  structure-body-spelled structure_word.Loop x ts rest (q, e, p) = ap order_of_structure e ∙
      loop-structure q ∙ body-spelled q ts rest p
  structure-body-spelled structure_word.While x ts rest p = while-spelled x ts rest p
  structure-body-spelled structure_word.Repeat x ts rest p = repeat-spelled x ts rest p
  structure-body-spelled structure_word.For x ts rest p = for-spelled x ts rest p

  if-body-spelled : (x : List Branch × List Stmt) (ts rest : List Token) →
      Spells inner if_body x ts rest → RuleOrdered IfBody x
  unfolding if_body
  if-body-spelled x ts rest (m, bs, ss) = (
    branches-spelled x.0 ts m bs,
    otherwise-spelled x.1 m
        rest ss,
  )

  case-body-spelled : (x : Tree CaseBody) (ts rest : List Token) →
      Spells inner case_body x ts rest → RuleOrdered CaseBody x
  unfolding case_body
  case-body-spelled x ts rest (m1, operand, (m2, bs, ss)) =
      (when-spelled x.1.0 m1 m2 bs, otherwise-spelled x.1.1 m2 rest ss)

  -- ---- statements of scripts

  created-spelled : (f : Anchor → Stmt) (ts rest : List Token) → Spells inner created f ts rest →
      (at : Anchor) → is_ordered (f at) ≡ true
  unfolding created create_function function_definition create_procedure procedure_definition
  created-spelled f ts rest (inl (q, e, p)) at = ap (λ (g : Anchor → Stmt). is_ordered (g at)) e ∙
      create-table-order _
  created-spelled f ts rest
      (inr (inl (q, e, (r, e1, (m1, word, (m2, i, (m3, ps, (m4, type, (m5, cs, p))))))))) at =
      ap (λ (g : Anchor → Stmt). is_ordered (g at)) e ∙ create-function-order _ ∙
      function-parts at q.0 q.1.0 q.1.1.0 q.1.1.1.0 q.1.1.1.1
      ∙ ap (λ (z : FunctionParts). is_ordered z.1.1.1.1) e1 ∙ stmt-spelled r.1.1.1.1.1 m5 rest p
  created-spelled f ts rest (inr (inr (q, e, (r, e1, (m1, word, (m2, i, (m3, ps, (m4, cs, p))))))))
      at =
      ap (λ (g : Anchor → Stmt). is_ordered (g at)) e ∙ create-procedure-order _ ∙
      procedure-parts at q.0 q.1.0 q.1.1.0 q.1.1.1
      ∙ ap (λ (z : ProcedureParts). is_ordered z.1.1.1) e1 ∙ stmt-spelled r.1.1.1.1 m4 rest p

  ddl-spelled : (x : Stmt) (ts rest : List Token) → Spells inner ddl x ts rest → is_ordered x ≡ true
  unfolding ddl create
  ddl-spelled x ts rest (inl (q, e, (m, word, p))) = ap is_ordered e ∙
      created-spelled q.1 m rest p q.0
  ddl-spelled x ts rest (inr p) = made (λ y. stmt_of.Drop y) drop_object x ts rest drop-order p

  other-spelled : (x : Stmt) (ts rest : List Token) → Spells inner other_statement x ts rest →
      is_ordered x ≡ true
  unfolding other_statement explain
  other-spelled x ts rest (inl p) = made (λ y. stmt_of.Query y) ordered_query x ts rest query-order
      p
  other-spelled x ts rest (inr (inl p)) = made (λ y. stmt_of.Explain y.0 y.1)
      (explain_word ~ ordered_query) x ts rest (λ y. explain-order y.0 y.1) p
  other-spelled x ts rest (inr (inr (inl p))) =
      made (λ y. stmt_of.Call y) call x ts rest call-order p
  other-spelled x ts rest (inr (inr (inr (y, e, p)))) = ap is_ordered e ∙ labelled-order y ∙
      labelled-block-spelled y ts rest p

  unended-spelled : (x : Stmt) (ts rest : List Token) → Spells inner unended x ts rest →
      is_ordered x ≡ true
  unfolding unended
  unended-spelled x ts rest (inl p) = ddl-spelled x ts rest p
  unended-spelled x ts rest (inr (inl p)) = dml-spelled x ts rest p
  unended-spelled x ts rest (inr (inr p)) = other-spelled x ts rest p

  statement-spelled : (x : Stmt) (ts rest : List Token) → Spells inner statement x ts rest →
      is_ordered x ≡ true
  unfolding statement
  statement-spelled x ts rest (q, e, (middle, p, end)) = ap is_ordered e ∙
      unended-spelled q.0 ts middle p

-- by how many constructs are open
keeps-inside : (n : ℕ) → Keeps (inside rules n)
keeps-inside zero r x ts rest p = absurd p
keeps-inside (suc n) (Body k) x ts rest p = structure-body-spelled (inside rules n)
    (keeps-inside n) k x ts rest p
keeps-inside (suc n) IfBody x ts rest p = if-body-spelled (inside rules n) (keeps-inside n) x ts
    rest p
keeps-inside (suc n) CaseBody x ts rest p = case-body-spelled (inside rules n) (keeps-inside n) x ts
    rest p
keeps-inside (suc n) _ x ts rest p = tt

-- each statement that is spelled is in order
pub spelled_in_order : (n : ℕ) (x : Stmt) (ts rest : List Token) →
    Spells (inside rules n) statement x ts rest → is_ordered x ≡ true
spelled_in_order n x ts rest p = statement-spelled (inside rules n) (keeps-inside n) x ts rest p
