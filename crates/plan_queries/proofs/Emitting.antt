-- Emissions one after the other.
use Rattle.std.proofs.Common.{ℕ, ◌≡◌, true, false, slice_index_or, take, take_all, ◌-◌, suc}
use Rattle.std.proofs.Common.{if◌then◌else◌, ◌<◌, ◌≤◌, ◌+◌, ◌∷◌, [], ◌++◌, List, map, length, drop}
use Rattle.std.proofs.Common.{get_or, Result, IfOk, refl, sym, ap, ◌∙◌, subst, arith}
use Rattle.std.proofs.lemmas.List.{drop_all}
use Rattle.std.proofs.lemmas.Bool.{leb-true}
use Rattle.bound_trees.specs.declared.expr.BoundExpr.{BoundExpr}
use Rattle.bound_trees.specs.declared.expr.BoundOperation.{BoundOperation}
use Rattle.bound_trees.specs.declared.expr.BoundOperation.TheVariants.{CaseOf}
use Rattle.bound_trees.specs.Operands.{takes}
use Rattle.bound_trees.specs.declared.expr.BoundLink.{BoundLink}
use Rattle.block_plans.specs.Callees.{Callees, width_in}
use Rattle.catalog_store.specs.View.{Standing, over_all, as_and, as_or, as_coalesce, as_case}
use Rattle.catalog_store.specs.View.{as_case_of, standing, stood, case_of, exprs, operated}
use Rattle.block_plans.specs.View.{expr_seen, exprs_seen, links_seen}
use Rattle.rel_algebra.specs.declared.scalar.Scalar.{Scalar as ScalarCode}
use Rattle.rel_algebra.specs.declared.scalar.ScalarLink.{ScalarLink as LinkCode}
use Rattle.sql_values.specs.declared.value.SqlType.{SqlType}
use Rattle.sql_values.specs.declared.value.Value.TheVariants.{Null}
use Rattle.rel_algebra.specs.Tree.{Arithmetic, Expr, Literal, Chain, Call, Exprs, Routine, Links}
use Rattle.rel_algebra.specs.Tree.{NoLink, MoreLinks, parameters_of, Column, Variable, Operate, And}
use Rattle.rel_algebra.specs.Tree.{Or, Case, CaseOf as CaseOfTree, Coalesce, In, Exists, Single}
use Rattle.rel_algebra.specs.Tree.{CallSelf}
use Rattle.rel_algebra.specs.Plan.{Word, strict, case_word, Scalar, word, Scalars, none, more}
use Rattle.rel_algebra.specs.Plan.{PlanTree}
use Rattle.rel_algebra.specs.Plan.{extend_by, extend, on_each}
use Rattle.rel_algebra.specs.PlanView.{Link, chained, scalar_of, scalars_of, link_of}
use Rattle.rel_algebra.specs.Emit.{Env, Emitted, EmittedAll, plain, first_and, word_on, singly}
use Rattle.rel_algebra.specs.Emit.{joined_nodes, width, emit, emit_links, emit_all, emit_args}
use Rattle.rel_algebra.specs.Emit.{emit_body, passed, raising, checks, scalar_count, against}
use Rattle.rel_algebra.specs.Emit.{assigning, assigning_first, assigning_in}
use Rattle.plan_expressions.specs.declared.draft.Draft.{Draft}
use Rattle.plan_expressions.specs.Drafts.{drafted}
use Rattle.plan_expressions.specs.Emission.{Emits, EmitsAll, put, guarded}
use Rattle.plan_expressions.specs.Words.{word_by, word_of}
use Rattle.plan_queries.specs.Cost.{cost, costs, links_cost}
use Rattle.block_plans.proofs.Laws.{link_seen-parts as bound_link-parts}
use Rattle.plan_expressions.proofs.Laws.{on_each-joined, width-joined, joined-joined}
use Rattle.plan_expressions.proofs.Laws.{joined-nothing, rest, drop-next, put-none, put-append}
use Rattle.plan_expressions.proofs.Laws.{scalars-counted, map-last, guarded-values, scalar_of-Chain}
use Rattle.plan_expressions.proofs.Laws.{link_of-parts, length-map, scalar_of-Constant, if_ok}
use Rattle.rel_algebra.specs.declared.scalar.Scalar.TheVariants.{Constant}

-- ---- the second on the row that the first leaves

pub then_tree : (a : Emitted) (b : ℕ → EmittedAll) (n m : ℕ) (t u : PlanTree) →
    m ≡ width a.nodes n → u ≡ on_each a.nodes t →
    on_each (b m).nodes u ≡ on_each (first_and a b n).nodes t
then_tree a b n m t u w h =
    ap (λ x. on_each (b x).nodes u) w ∙ ap (on_each (b (width a.nodes n)).nodes) h ∙
    sym (on_each-joined a.nodes (b (width a.nodes n)).nodes t)

pub then_width : (a : Emitted) (b : ℕ → EmittedAll) (n m : ℕ) → m ≡ width a.nodes n →
    width (b m).nodes m ≡ width (first_and a b n).nodes n
then_width a b n m w = ap (λ x. width (b x).nodes x) w ∙
    sym (width-joined a.nodes (b (width a.nodes n)).nodes n)

-- ---- lists

-- of a list's emission this much is done: these scalars stand, and what is left goes on from here
pub record Listing (k : Callees) (e : Env) (es : List BoundExpr) (i : ℕ) (start now : Draft)
    (front : List ScalarCode) : Type 0 where
  pub tree : on_each (emit_all (exprs_seen k (drop i es)) (width_in k) e (drafted now).width).nodes
      (drafted now).tree
      ≡ on_each (emit_all (exprs_seen k es) (width_in k) e (drafted start).width).nodes
      (drafted start).tree
  pub columns : width (emit_all (exprs_seen k (drop i es)) (width_in k) e (drafted now).width).nodes
      (drafted now).width
      ≡ width (emit_all (exprs_seen k es) (width_in k) e (drafted start).width).nodes
      (drafted start).width
  pub scalars : put front (emit_all (exprs_seen k (drop i es)) (width_in k) e
      (drafted now).width).scalars ≡ (emit_all (exprs_seen k es) (width_in k) e
      (drafted start).width).scalars
  pub small : costs (exprs_seen k (drop i es)) ≤ costs (exprs_seen k es)

pub listing_first : (k : Callees) (e : Env) (es : List BoundExpr) (start : Draft) →
    Listing k e es 0 start start []
listing_first k e es start = record {
  tree = refl;
  columns = refl;
  scalars = refl;
  small =
      omega arith;
}

-- what is left begins with the expression at its place
pub list_at : (k : Callees) (e : Env) (es : List BoundExpr) (i : ℕ) (x : BoundExpr) (n : ℕ) →
    i < length es → x ≡ get_or es i x →
    emit_all (exprs_seen k (drop i es)) (width_in k) e n ≡ first_and
    (emit (expr_seen k x) (width_in k) e n)
    (emit_all (exprs_seen k (drop (i + 1) es)) (width_in k) e) n
list_at k e es i x n h is = ap (λ (xs : List BoundExpr). emit_all (exprs_seen k xs) (width_in k) e
    n)
    (rest es i x h is)

pub costs-rest : (k : Callees) (es : List BoundExpr) (i : ℕ) (x : BoundExpr) → i < length es →
    x ≡ get_or es i x →
    costs (exprs_seen k (drop i es)) ≡ cost (expr_seen k x) + costs (exprs_seen k (drop (i + 1) es))
    + 1
costs-rest k es i x h is = ap (λ (xs : List BoundExpr). costs (exprs_seen k xs)) (rest es i x h is)

pub listing_next : (k : Callees) (e : Env) (es : List BoundExpr) (i : ℕ) (x : BoundExpr)
    (start old new : Draft) (front more_front : List ScalarCode) (s : ScalarCode) →
    i < length es → x ≡ get_or es i x → Listing k e es i start old front →
    Emits old new (scalar_of s) (emit (expr_seen k x) (width_in k) e (drafted old).width) →
    more_front ≡ front ++ s ∷ [] → Listing k e es (i + 1) start new more_front
listing_next k e es i x start old new front more_front s h is l d f =
    let n = (drafted old).width in
    let a = emit (expr_seen k x) (width_in k) e n in
    let b = emit_all (exprs_seen k (drop (i + 1) es)) (width_in k) e in
    let at = list_at k e es i x n h is in
    record {
      tree = then_tree a b n (drafted new).width (drafted old).tree (drafted new).tree d.columns
          d.tree ∙ ap (λ y. on_each y.nodes (drafted old).tree) (sym at) ∙ l.tree;
      columns = then_width a b n (drafted new).width d.columns ∙
          ap (λ y. width y.nodes n) (sym at) ∙ l.columns;
      scalars =
          ap (λ (ss : List ScalarCode). put ss (b (drafted new).width).scalars) f ∙
          put-append front (s ∷ []) (b (drafted new).width).scalars
          ∙ ap (λ y. put front (more y (b (drafted new).width).scalars)) d.scalar ∙
          ap (λ y. put front (more a.scalar (b y).scalars)) d.columns
          ∙ ap (λ y. put front y.scalars) (sym at) ∙ l.scalars;
      small = omega (arith, costs-rest k es i x h is, l.small);
    }

pub listing_done : (k : Callees) (e : Env) (es : List BoundExpr) (i : ℕ) (start now : Draft)
    (front : List ScalarCode) → length es ≤ i → Listing k e es i start now front →
    EmitsAll start now (scalars_of front) (emit_all (exprs_seen k es) (width_in k) e
    (drafted start).width)
listing_done k e es i start now front h l =
    let none_left = drop_all i es h in
    record {
      tree = ap (λ (xs : List BoundExpr). on_each
          (emit_all (exprs_seen k xs) (width_in k) e (drafted now).width).nodes (drafted now).tree)
          (sym none_left) ∙ l.tree;
      columns = ap (λ (xs : List BoundExpr). width
          (emit_all (exprs_seen k xs) (width_in k) e (drafted now).width).nodes (drafted now).width)
          (sym none_left) ∙ l.columns;
      scalars = sym (put-none front) ∙ ap (λ (xs : List BoundExpr).
          put front (emit_all (exprs_seen k xs) (width_in k) e (drafted now).width).scalars)
          (sym none_left) ∙ l.scalars;
    }

-- ---- chains

-- the rest of a chain's emission, from its first operand's
pub links_nodes : (links : Links) (a : Emitted) (S : List ℕ → ℕ) (e : Env) (n : ℕ) →
    (emit_links links a S e n).nodes ≡ joined_nodes a.nodes
    (emit_links links (plain a.scalar) S e (width a.nodes n)).nodes
links_nodes NoLink a S e n = sym (joined-nothing a.nodes)
links_nodes (MoreLinks operator x links) a S e n =
    let m = width a.nodes n in
    let c = emit x S e m in
    let s = word (strict (Arithmetic operator)) (more a.scalar (more c.scalar none)) in
    let f : ℕ → EmittedAll = λ q. singly (emit x S e q) in
    links_nodes links (word_on (strict (Arithmetic operator)) (first_and a f n)) S e n
    ∙ joined-joined a.nodes c.nodes (emit_links links (plain s) S e
    (width (joined_nodes a.nodes c.nodes) n)).nodes
    ∙ ap (λ q. joined_nodes a.nodes (joined_nodes c.nodes (emit_links links (plain s) S e q).nodes))
    (width-joined a.nodes c.nodes n)
    ∙ ap (joined_nodes a.nodes)
    (sym (links_nodes links (word_on (strict (Arithmetic operator))
    (first_and (plain a.scalar) f m)) S e m))

pub links_scalar : (links : Links) (a : Emitted) (S : List ℕ → ℕ) (e : Env) (n : ℕ) →
    (emit_links links a S e n).scalar ≡ (emit_links links (plain a.scalar) S e
    (width a.nodes n)).scalar
links_scalar NoLink a S e n = refl
links_scalar (MoreLinks operator x links) a S e n =
    let m = width a.nodes n in
    let c = emit x S e m in
    let s = word (strict (Arithmetic operator)) (more a.scalar (more c.scalar none)) in
    let f : ℕ → EmittedAll = λ q. singly (emit x S e q) in
    links_scalar links (word_on (strict (Arithmetic operator)) (first_and a f n)) S e n
    ∙ ap (λ q. (emit_links links (plain s) S e q).scalar) (width-joined a.nodes c.nodes n)
    ∙ sym (links_scalar links (word_on (strict (Arithmetic operator))
    (first_and (plain a.scalar) f m)) S e m)

-- the chain's first operand, and then the rest over its scalar
pub chain_emits : (links : Links) (S : List ℕ → ℕ) (e : Env) (start now new : Draft) (p q : Scalar)
    (a : Emitted) → Emits start now p a →
    Emits now new q (emit_links links (plain p) S e (drafted now).width) →
    Emits start new q (emit_links links a S e (drafted start).width)
chain_emits links S e start now new p q a first more_links =
    let n = (drafted start).width in
    let r = emit_links links (plain a.scalar) S e (width a.nodes n) in
    let same : emit_links links (plain p) S e (drafted now).width ≡ r =
    λ i. emit_links links (plain (first.scalar i)) S e (first.columns i) in
    record {
      tree =
          more_links.tree ∙ ap (λ y. on_each y.nodes (drafted now).tree) same ∙
          ap (on_each r.nodes) first.tree ∙
          sym (on_each-joined a.nodes r.nodes (drafted start).tree)
          ∙ ap (λ y. on_each y (drafted start).tree) (sym (links_nodes links a S e n));
      columns =
          more_links.columns ∙ ap (λ y. width y.nodes (drafted now).width) same ∙
          ap (width r.nodes) first.columns ∙ sym (width-joined a.nodes r.nodes n)
          ∙ ap (λ y. width y n) (sym (links_nodes links a S e n));
      scalar = more_links.scalar ∙ ap (λ y. y.scalar) same ∙ sym (links_scalar links a S e n);
    }

pub record Chaining (k : Callees) (e : Env) (ls : List BoundLink) (i : ℕ) (start now : Draft)
    (first : Scalar) (front : List LinkCode) : Type 0 where
  pub tree : on_each (emit_links (links_seen k (drop i ls))
      (plain (chained first (map link_of front))) (width_in k) e (drafted now).width).nodes
      (drafted now).tree
      ≡ on_each (emit_links (links_seen k ls) (plain first) (width_in k) e
      (drafted start).width).nodes (drafted start).tree
  pub columns : width (emit_links (links_seen k (drop i ls))
      (plain (chained first (map link_of front))) (width_in k) e (drafted now).width).nodes
      (drafted now).width
      ≡ width (emit_links (links_seen k ls) (plain first) (width_in k) e
      (drafted start).width).nodes
      (drafted start).width
  pub scalar : (emit_links (links_seen k (drop i ls)) (plain (chained first (map link_of front)))
      (width_in k) e (drafted now).width).scalar
      ≡ (emit_links (links_seen k ls) (plain first) (width_in k) e (drafted start).width).scalar

pub chaining_first : (k : Callees) (e : Env) (ls : List BoundLink) (start : Draft)
    (first : Scalar) → Chaining k e ls 0 start start first []
chaining_first k e ls start first = record { tree = refl; columns = refl; scalar = refl }

chained-last : (first : Scalar) (ls : List Link) (l : Link) →
    chained first (ls ++ l ∷ []) ≡ word (strict (Arithmetic l.operator))
    (more (chained first ls) (more l.operand none))
chained-last first [] l = refl
chained-last first (m ∷ ls) l = chained-last (word (strict (Arithmetic m.operator))
    (more first (more m.operand none))) ls l

-- what is left of a chain begins with the link at its place
pub links_at : (k : Callees) (ls : List BoundLink) (i : ℕ) (x : BoundLink) → i < length ls →
    x ≡ get_or ls i x →
    links_seen k (drop i ls) ≡ MoreLinks x.operator (expr_seen k x.operand)
    (links_seen k (drop (i + 1) ls))
links_at k ls i x h is = ap (links_seen k) (rest ls i x h is) ∙
    ap (λ l. MoreLinks l.operator l.operand (links_seen k (drop (i + 1) ls))) (bound_link-parts k x)

pub chaining_next : (k : Callees) (e : Env) (ls : List BoundLink) (i : ℕ) (x : BoundLink)
    (start old new : Draft) (first : Scalar) (front more_front : List LinkCode) (s : ScalarCode) →
    i < length ls → x ≡ get_or ls i x → Chaining k e ls i start old first front →
    Emits old new (scalar_of s) (emit (expr_seen k x.operand) (width_in k) e (drafted old).width)
    →
    more_front ≡ front ++ record { operator = x.operator; operand = s } ∷ [] →
    Chaining k e ls (i + 1) start new first more_front
chaining_next k e ls i x start old new first front more_front s h is c d f =
    let n = (drafted old).width in
    let S = width_in k in
    let p = chained first (map link_of front) in
    let operator = x.operator in let l : LinkCode = record { operator = x.operator; operand = s } in
    let a = emit (expr_seen k x.operand) S e n in
    let left = links_seen k (drop (i + 1) ls) in
    let step = word_on (strict (Arithmetic operator))
    (first_and (plain p) (λ m. singly (emit (expr_seen k x.operand) S e m)) n) in
    let at : emit_links (links_seen k (drop i ls)) (plain p) S e n ≡ emit_links left step S e n =
    ap (λ y. emit_links y (plain p) S e n) (links_at k ls i x h is) in
    let q = word (strict (Arithmetic operator)) (more p (more a.scalar none)) in
    let built : chained first (map link_of more_front) ≡ q =
    ap (λ (xs : List LinkCode). chained first (map link_of xs)) f ∙
    ap (chained first) (map-last link_of front l) ∙
    ap (λ y. chained first (map link_of front ++ y ∷ [])) (link_of-parts l)
    ∙ chained-last first (map link_of front) (record {
      operator = x.operator;
      operand =
          scalar_of s;
    }) ∙ ap (λ y. word (strict (Arithmetic operator)) (more p (more y none)))
    d.scalar in
    let r = emit_links left (plain q) S e (width a.nodes n) in
    let now : emit_links left (plain (chained first (map link_of more_front))) S e
    (drafted new).width ≡ r = λ j. emit_links left (plain (built j)) S e (d.columns j) in
    record {
      tree =
          ap (λ y. on_each y.nodes (drafted new).tree) now ∙ ap (on_each r.nodes) d.tree ∙
          sym (on_each-joined a.nodes r.nodes (drafted old).tree)
          ∙ ap (λ y. on_each y (drafted old).tree) (sym (links_nodes left step S e n)) ∙
          ap (λ y. on_each y.nodes (drafted old).tree) (sym at) ∙ c.tree;
      columns =
          ap (λ y. width y.nodes (drafted new).width) now ∙ ap (width r.nodes) d.columns ∙
          sym (width-joined a.nodes r.nodes n)
          ∙ ap (λ y. width y n) (sym (links_nodes left step S e n)) ∙
          ap (λ y. width y.nodes n) (sym at) ∙ c.columns;
      scalar = ap (λ y. y.scalar) now ∙ sym (links_scalar left step S e n) ∙
          ap (λ y. y.scalar) (sym at) ∙ c.scalar;
    }

-- the links that are left are no more than all
pub links_small : (k : Callees) (ls : List BoundLink) (i : ℕ) (x : BoundLink) → i < length ls →
    x ≡ get_or ls i x →
    links_cost (links_seen k (drop i ls)) ≡ cost (expr_seen k x.operand) + links_cost
    (links_seen k (drop (i + 1) ls)) + 1
links_small k ls i x h is = ap links_cost (links_at k ls i x h is)

pub chain_done : (k : Callees) (e : Env) (ls : List BoundLink) (i : ℕ) (start now : Draft)
    (front : List LinkCode) → length ls ≤ i →
    ((first : Scalar) → Chaining k e ls i start now first front) → (first : Scalar) →
    Emits start now (chained first (map link_of front))
    (emit_links (links_seen k ls) (plain first) (width_in k) e (drafted start).width)
chain_done k e ls i start now front h all first =
    let c = all first in
    let none_left = drop_all i ls h in
    let so_far = plain (chained first (map link_of front)) in
    record {
      tree = ap (λ (xs : List BoundLink). on_each
          (emit_links (links_seen k xs) so_far (width_in k) e (drafted now).width).nodes
          (drafted now).tree) (sym none_left) ∙ c.tree;
      columns = ap (λ (xs : List BoundLink). width
          (emit_links (links_seen k xs) so_far (width_in k) e (drafted now).width).nodes
          (drafted now).width) (sym none_left) ∙ c.columns;
      scalar = ap (λ (xs : List BoundLink).
          (emit_links (links_seen k xs) so_far (width_in k) e (drafted now).width).scalar)
          (sym none_left) ∙ c.scalar;
    }

-- the first operand, and then the links over its scalar
pub chain_whole : {B : Type 0} → (k : Callees) (x : Expr) (ls : Links) (e : Env)
    (start now new : Draft) (p : ScalarCode) (front : List LinkCode) (r : Result ScalarCode B) →
    Emits start now (scalar_of p) (emit x (width_in k) e (drafted start).width) →
    ((q : Scalar) → Emits now new (chained q (map link_of front))
    (emit_links ls (plain q) (width_in k) e (drafted now).width)) →
    IfOk r (λ s. scalar_of s ≡ chained (scalar_of p) (map link_of front)) →
    IfOk r (λ s. Emits start new (scalar_of s) (emit (Chain x ls) (width_in k) e
    (drafted start).width))
chain_whole k x ls e start now new p front r one others made =
    let q = chained (scalar_of p) (map link_of front) in
    if_ok r (λ s. scalar_of s ≡ q) (λ s. Emits start new (scalar_of s)
    (emit (Chain x ls) (width_in k) e (drafted start).width)) made
    (λ s is. subst (λ y. Emits start new y (emit (Chain x ls) (width_in k) e
    (drafted start).width)) (sym is)
    (chain_emits ls (width_in k) e start now new (scalar_of p) q
    (emit x (width_in k) e (drafted start).width) one (others (scalar_of p))))

-- ---- words

-- a word that is no CASE with an operand takes its operands in turn
emit-stood : (w : Standing) (es : List Expr) (S : List ℕ → ℕ) (e : Env) (n : ℕ) →
    ¬ (w ≡ as_case_of) → emit (stood w es) S e n ≡ word_on (word_by w) (emit_all (exprs es) S e n)
emit-stood (over_all operation) es S e n h = refl
emit-stood as_and es S e n h = refl
emit-stood as_or es S e n h = refl
emit-stood as_coalesce es S e n h = refl
emit-stood as_case es S e n h = refl
emit-stood as_case_of es S e n h = absurd (h refl)

pub word_emits : (w : Standing) (es : List Expr) (S : List ℕ → ℕ) (e : Env) (start new : Draft)
    (ss : Scalars) (s : Scalar) → ¬ (w ≡ as_case_of) →
    EmitsAll start new ss (emit_all (exprs es) S e (drafted start).width) →
    s ≡ word (word_by w) ss → Emits start new s (emit (stood w es) S e (drafted start).width)
word_emits w es S e start new ss s h d is =
    subst (λ a. Emits start new s a) (sym (emit-stood w es S e (drafted start).width h))
    (record { tree = d.tree; columns = d.columns; scalar = is ∙ ap (word (word_by w)) d.scalars })

-- CASE with an operand: the operand is a column more, and the arms are read on the row that has it
pub case_emits : (x : Expr) (es : List Expr) (S : List ℕ → ℕ) (e : Env)
    (start compared wide new : Draft) (first : Scalar) (ss : Scalars) (s : Scalar) (m : ℕ) →
    2 ≤ length es →
    Emits start compared first (emit x S e (drafted start).width) → m ≡ (drafted compared).width →
    (drafted wide).tree ≡ extend (more first none) (drafted compared).tree →
    (drafted wide).width ≡ (drafted compared).width + 1 →
    EmitsAll wide new ss (emit_all (exprs es) S e (drafted wide).width) →
    s ≡ word case_word (against m ss) →
    Emits start new s (emit (case_of (x ∷ es)) S e (drafted start).width)
case_emits x [] S e start compared wide new first ss s m many one at tree columns others is =
    absurd (omega (arith, many))
case_emits x (y ∷ []) S e start compared wide new first ss s m many one at tree columns others is =
    absurd (omega (arith, many))
case_emits x (test ∷ result ∷ arms) S e start compared wide new first ss s m many one at tree
    columns others is =
    let n = (drafted start).width in
    let a = emit x S e n in
    let p = width a.nodes n in
    let b = emit_all (exprs (test ∷ result ∷ arms)) S e (suc p) in
    let place : m ≡ p = at ∙ one.columns in
    let after : (drafted wide).width ≡ suc p = omega (arith, columns, one.columns) in
    let same : emit_all (exprs (test ∷ result ∷ arms)) S e (drafted wide).width ≡ b =
    ap (emit_all (exprs (test ∷ result ∷ arms)) S e) after in
    let next : p + 1 ≡ suc p = omega arith in
    record {
      tree =
          others.tree ∙ ap (λ y. on_each y.nodes (drafted wide).tree) same ∙
          ap (on_each b.nodes) (tree ∙ (λ j. extend (more (one.scalar j) none) (one.tree j)))
          ∙ sym (on_each-joined a.nodes (extend_by (more a.scalar none) b.nodes)
          (drafted start).tree);
      columns =
          others.columns ∙ ap (λ y. width y.nodes (drafted wide).width) same ∙
          ap (width b.nodes) (after ∙ sym next)
          ∙ sym (width-joined a.nodes (extend_by (more a.scalar none) b.nodes) n);
      scalar = is ∙
          (λ j. word case_word (against (place j) ((others.scalars ∙ ap (λ y. y.scalars) same) j)));
    }

-- ---- arguments

-- of the emission of arguments this much is done
pub record Passing (k : Callees) (e : Env) (es : List BoundExpr) (types : List SqlType) (i : ℕ)
    (start now : Draft) (front : List ScalarCode) : Type 0 where
  pub tree : on_each (emit_args (exprs_seen k (drop i es)) (drop i types) (width_in k) e
      (drafted now).width).nodes (drafted now).tree
      ≡ on_each (emit_args (exprs_seen k es) types (width_in k) e (drafted start).width).nodes
      (drafted start).tree
  pub columns : width (emit_args (exprs_seen k (drop i es)) (drop i types) (width_in k) e
      (drafted now).width).nodes (drafted now).width
      ≡ width (emit_args (exprs_seen k es) types (width_in k) e (drafted start).width).nodes
      (drafted start).width
  pub scalars : put front (emit_args (exprs_seen k (drop i es)) (drop i types) (width_in k) e
      (drafted now).width).scalars
      ≡ (emit_args (exprs_seen k es) types (width_in k) e (drafted start).width).scalars
  pub small : costs (exprs_seen k (drop i es)) ≤ costs (exprs_seen k es)

pub passing_first : (k : Callees) (e : Env) (es : List BoundExpr) (types : List SqlType)
    (start : Draft) → Passing k e es types 0 start start []
passing_first k e es types start = record {
  tree = refl;
  columns = refl;
  scalars = refl;
  small =
      omega arith;
}

pub passing_next : (k : Callees) (e : Env) (es : List BoundExpr) (types : List SqlType) (i : ℕ)
    (x : BoundExpr) (start old new : Draft) (front longer : List ScalarCode) (s t : ScalarCode) →
    i < length es → x ≡ get_or es i x → Passing k e es types i start old front →
    Emits old new (scalar_of s) (emit (expr_seen k x) (width_in k) e (drafted old).width) →
    scalar_of t ≡ assigning_first (drop i types) (scalar_of s) → longer ≡ front ++ t ∷ [] →
    Passing k e es types (i + 1) start new longer
passing_next k e es types i x start old new front longer s t h is l d assigned f =
    let n = (drafted old).width in
    let S = width_in k in
    let ts = drop i types in
    let a = assigning_in ts (emit (expr_seen k x) S e n) in
    let left = exprs_seen k (drop (i + 1) es) in
    let b = emit_args left (drop (i + 1) types) S e in
    let at : emit_args (exprs_seen k (drop i es)) ts S e n ≡ first_and a b n =
    ap (λ (xs : List BoundExpr). emit_args (exprs_seen k xs) ts S e n) (rest es i x h is) ∙
    ap (λ (us : List SqlType). first_and a (emit_args left us S e) n) (drop-next i types) in
    record {
      tree = then_tree a b n (drafted new).width (drafted old).tree (drafted new).tree d.columns
          d.tree ∙ ap (λ y. on_each y.nodes (drafted old).tree) (sym at) ∙ l.tree;
      columns = then_width a b n (drafted new).width d.columns ∙
          ap (λ y. width y.nodes n) (sym at) ∙ l.columns;
      scalars =
          ap (λ (ss : List ScalarCode). put ss (b (drafted new).width).scalars) f ∙
          put-append front (t ∷ []) (b (drafted new).width).scalars
          ∙ ap (λ y. put front (more y (b (drafted new).width).scalars))
          (assigned ∙ ap (assigning_first ts) d.scalar)
          ∙ ap (λ y. put front (more a.scalar (b y).scalars)) d.columns ∙
          ap (λ y. put front y.scalars) (sym at) ∙ l.scalars;
      small = omega (arith, costs-rest k es i x h is, l.small);
    }

pub passing_done : (k : Callees) (e : Env) (es : List BoundExpr) (types : List SqlType) (i : ℕ)
    (start now : Draft) (front : List ScalarCode) → length es ≤ i →
    Passing k e es types i start now front → EmitsAll start now (scalars_of front)
    (emit_args (exprs_seen k es) types (width_in k) e (drafted start).width)
passing_done k e es types i start now front h l =
    let none_left = drop_all i es h in
    let ts = drop i types in
    record {
      tree = ap (λ (xs : List BoundExpr). on_each
          (emit_args (exprs_seen k xs) ts (width_in k) e (drafted now).width).nodes
          (drafted now).tree) (sym none_left) ∙ l.tree;
      columns = ap (λ (xs : List BoundExpr). width
          (emit_args (exprs_seen k xs) ts (width_in k) e (drafted now).width).nodes
          (drafted now).width) (sym none_left) ∙ l.columns;
      scalars = sym (put-none front) ∙ ap (λ (xs : List BoundExpr).
          put front (emit_args (exprs_seen k xs) ts (width_in k) e (drafted now).width).scalars)
          (sym none_left) ∙ l.scalars;
    }

-- ---- calls

-- a result, assigned to its type
pub result_emits : (t : SqlType) (start new : Draft) (p q : Scalar) (a : Emitted) →
    Emits start new p a → q ≡ assigning t p → Emits start new q (assigning_in (t ∷ []) a)
result_emits t start new p q a d is = record {
  tree = d.tree;
  columns = d.columns;
  scalar = is ∙
      ap (assigning t) d.scalar;
}

-- a call: its arguments, an Extend of them, and the body over the columns
pub call_emits : (name : List ℕ) (routine : Routine) (args : Exprs) (S : List ℕ → ℕ) (e : Env)
    (start listed extended new : Draft) (ss : List ScalarCode) (body result : Scalar)
    (m k : ℕ) → EmitsAll start listed (scalars_of ss)
    (emit_args args (parameters_of routine) S e (drafted start).width) →
    m ≡ (drafted listed).width → k ≡ length ss →
    (drafted extended).tree ≡ extend (scalars_of ss) (drafted listed).tree →
    (drafted extended).width ≡ (drafted listed).width + length ss →
    Emits extended new body (emit_body routine S (passed m k) (drafted extended).width) →
    result ≡ guarded (checks (raising args (parameters_of routine) m)) body →
    Emits start new result (emit (Call name routine args) S e (drafted start).width)
call_emits name routine args S e start listed extended new ss body result m k first from many
    tree columns second is =
    let n = (drafted start).width in
    let a = emit_args args (parameters_of routine) S e n in
    let at : m ≡ width a.nodes n = from ∙ first.columns in
    let counted : k ≡ scalar_count a.scalars = many ∙ sym (scalars-counted ss) ∙
    ap scalar_count first.scalars in
    let wide : (drafted extended).width ≡ width a.nodes n + scalar_count a.scalars =
    columns ∙ (λ j. first.columns j + (sym (scalars-counted ss) ∙ ap scalar_count first.scalars) j)
    in
    let b = emit_body routine S (passed (width a.nodes n) (scalar_count a.scalars))
    (width a.nodes n + scalar_count a.scalars) in
    let same : emit_body routine S (passed m k) (drafted extended).width ≡ b =
    λ j. emit_body routine S (passed (at j) (counted j)) (wide j) in
    record {
      tree =
          second.tree ∙ ap (λ y. on_each y.nodes (drafted extended).tree) same
          ∙ ap (on_each b.nodes) (tree ∙ (λ j. extend (first.scalars j) (first.tree j)))
          ∙ sym (on_each-joined a.nodes (extend_by a.scalars b.nodes) (drafted start).tree);
      columns =
          second.columns ∙ ap (λ y. width y.nodes (drafted extended).width) same ∙
          ap (width b.nodes) wide
          ∙ sym (width-joined a.nodes (extend_by a.scalars b.nodes) n);
      scalar =
          is ∙ (λ j. guarded (checks (raising args (parameters_of routine) (at j)))
          ((second.scalar ∙ ap (λ y. y.scalar) same) j))
          ∙ guarded-values (raising args (parameters_of routine) (width a.nodes n)) b.scalar;
    }

-- ---- the same of bound expressions

-- what is emitted of the tree that an expression stands for
pub emits_as : {B : Type 0} → (k : Callees) (x : BoundExpr) (t : Expr) (e : Env)
    (start new : Draft) (r : Result ScalarCode B) → t ≡ expr_seen k x →
    IfOk r (λ s. Emits start new (scalar_of s) (emit t (width_in k) e (drafted start).width)) →
    IfOk r (λ s. Emits start new (scalar_of s) (emit (expr_seen k x) (width_in k) e
    (drafted start).width))
emits_as k x t e start new r tree d = subst (λ u. IfOk r (λ s. Emits start new (scalar_of s)
    (emit u (width_in k) e (drafted start).width))) tree d

-- a name or a literal
pub leaf_emits : {B : Type 0} → (k : Callees) (x : BoundExpr) (t : Expr) (e : Env)
    (start : Draft) (r : Result ScalarCode B) (p : Scalar) → t ≡ expr_seen k x →
    emit t (width_in k) e (drafted start).width ≡ plain p → IfOk r (λ s. scalar_of s ≡ p) →
    IfOk r (λ s. Emits start start (scalar_of s) (emit (expr_seen k x) (width_in k) e
    (drafted start).width))
leaf_emits k x t e start r p tree alone d =
    emits_as k x t e start start r tree
    (if_ok r (λ s. scalar_of s ≡ p) (λ s. Emits start start (scalar_of s)
    (emit t (width_in k) e (drafted start).width)) d
    (λ s is. subst (λ a. Emits start start (scalar_of s) a) (sym alone)
    (record { tree = refl; columns = refl; scalar = is })))

-- a word over as many operands as it takes
pub operated-taken : (k : Callees) (operation : BoundOperation) (es : List BoundExpr) →
    takes operation (length es) ≡ true →
    operated operation (map (expr_seen k) es) ≡ stood (standing operation) (map (expr_seen k) es)
operated-taken k operation es h =
    ap (λ n. if takes operation n then stood (standing operation)
    (map (expr_seen k) es) else Literal Null) (length-map (expr_seen k) es)
    ∙ ap (λ b. if b then stood (standing operation) (map (expr_seen k) es) else Literal Null) h

-- and over another number
pub operated-refused : (k : Callees) (operation : BoundOperation) (es : List BoundExpr) →
    takes operation (length es) ≡ false → operated operation (map (expr_seen k) es) ≡ Literal Null
operated-refused k operation es h =
    ap (λ n. if takes operation n then stood (standing operation)
    (map (expr_seen k) es) else Literal Null) (length-map (expr_seen k) es)
    ∙ ap (λ b. if b then stood (standing operation) (map (expr_seen k) es) else Literal Null) h

pub refused_emits : (k : Callees) (operation : BoundOperation) (es : List BoundExpr) (e : Env)
    (start : Draft) → takes operation (length es) ≡ false →
    Emits start start (scalar_of (Constant Null)) (emit (operated operation (map (expr_seen k) es))
    (width_in k) e (drafted start).width)
refused_emits k operation es e start h =
    subst (λ y. Emits start start (scalar_of (Constant Null))
    (emit y (width_in k) e (drafted start).width)) (sym (operated-refused k operation es h))
    (record { tree = refl; columns = refl; scalar = scalar_of-Constant Null })

-- a word that is no CASE with an operand
pub words_emit : {B : Type 0} → (k : Callees) (operation : BoundOperation) (es : List BoundExpr)
    (e : Env) (start new : Draft) (r : Result ScalarCode B) →
    ¬ (standing operation ≡ as_case_of) → takes operation (length es) ≡ true →
    IfOk r (λ s. Emits start new (scalar_of s) (word_on (word_of operation)
    (emit_all (exprs_seen k es) (width_in k) e (drafted start).width))) →
    IfOk r (λ s. Emits start new (scalar_of s) (emit (operated operation (map (expr_seen k) es))
    (width_in k) e (drafted start).width))
words_emit k operation es e start new r other taken d =
    subst (λ a. IfOk r (λ s. Emits start new (scalar_of s) a))
    (sym (emit-stood (standing operation) (map (expr_seen k) es) (width_in k) e
    (drafted start).width
    other) ∙ ap (λ y. emit y (width_in k) e (drafted start).width)
    (sym (operated-taken k operation es taken))) d

-- CASE with an operand
pub case_of_emits : {B : Type 0} → (k : Callees) (operation : BoundOperation)
    (es : List BoundExpr) (e : Env) (start new : Draft) (r : Result ScalarCode B) →
    operation ≡ CaseOf → takes operation (length es) ≡ true →
    IfOk r (λ s. Emits start new (scalar_of s) (emit (case_of (map (expr_seen k) es)) (width_in k) e
    (drafted start).width)) →
    IfOk r (λ s. Emits start new (scalar_of s) (emit (operated operation (map (expr_seen k) es))
    (width_in k) e (drafted start).width))
case_of_emits k operation es e start new r is taken d =
    subst (λ t. IfOk r (λ s. Emits start new (scalar_of s) (emit t (width_in k) e
    (drafted start).width)))
    (ap (λ (w : BoundOperation). stood (standing w) (map (expr_seen k) es)) (sym is) ∙
    sym (operated-taken k operation es taken)) d

-- of a word the scalar is that of its operands
pub word_made : {B : Type 0} → (w : Word) (a : EmittedAll) (start new : Draft)
    (ss : List ScalarCode) (r : Result ScalarCode B) → EmitsAll start new (scalars_of ss) a →
    IfOk r (λ s. scalar_of s ≡ word w (scalars_of ss)) →
    IfOk r (λ s. Emits start new (scalar_of s) (word_on w a))
word_made w a start new ss r d made =
    if_ok r (λ s. scalar_of s ≡ word w (scalars_of ss))
    (λ s. Emits start new (scalar_of s) (word_on w a)) made
    (λ s is. record { tree = d.tree; columns = d.columns; scalar = is ∙ ap (word w) d.scalars })

-- ---- what falls

cost-case_of : (es : List Expr) → 3 ≤ length es → cost (case_of es) ≡ costs (exprs es) + 3
cost-case_of [] h = absurd (omega (arith, h))
cost-case_of (x ∷ []) h = absurd (omega (arith, h))
cost-case_of (x ∷ y ∷ []) h = absurd (omega (arith, h))
cost-case_of (x ∷ test ∷ result ∷ arms) h = refl

cost-stood : (w : Standing) (es : List Expr) → (w ≡ as_case_of → 3 ≤ length es) →
    cost (stood w es) ≡ costs (exprs es) + 3
cost-stood (over_all operation) es h = refl
cost-stood as_and es h = refl
cost-stood as_or es h = refl
cost-stood as_coalesce es h = refl
cost-stood as_case es h = refl
cost-stood as_case_of es h = cost-case_of es (h refl)

case_many : (operation : BoundOperation) (n : ℕ) → takes operation n ≡ true →
    standing operation ≡ as_case_of → 3 ≤ n
case_many CaseOf n h q = leb-true 3 n h
case_many _ n h q = absurd (let never = q in cc)

-- a word over as many operands as it takes is more than these
pub cost-taken : (k : Callees) (operation : BoundOperation) (es : List BoundExpr) →
    takes operation (length es) ≡ true →
    cost (operated operation (map (expr_seen k) es)) ≡ costs (exprs_seen k es) + 3
cost-taken k operation es h =
    ap cost (operated-taken k operation es h)
    ∙ cost-stood (standing operation) (map (expr_seen k) es)
    (λ q. subst (λ n. 3 ≤ n) (sym (length-map (expr_seen k) es))
    (case_many operation (length es) h q))

-- any expression costs something
pub cost-some : (x : Expr) → 1 ≤ cost x
cost-some (Literal v) = omega arith
cost-some (Column level i) = omega arith
cost-some (Variable i) = omega arith
cost-some (Chain x links) = omega arith
cost-some (Operate operation es) = omega arith
cost-some (And es) = omega arith
cost-some (Or es) = omega arith
cost-some (Case es) = omega arith
cost-some (CaseOfTree x test result arms) = omega arith
cost-some (Coalesce es) = omega arith
cost-some (In x query) = omega arith
cost-some (Exists query) = omega arith
cost-some (Single query) = omega arith
cost-some (Call name routine es) = omega arith
cost-some (CallSelf types es) = omega arith

-- as many scalars as expressions
all-counted : (es : List Expr) (S : List ℕ → ℕ) (e : Env) (n : ℕ) →
    scalar_count (emit_all (exprs es) S e n).scalars ≡ length es
all-counted [] S e n = refl
all-counted (x ∷ es) S e n = ap suc (all-counted es S e (width (emit x S e n).nodes n))

pub as_many : (k : Callees) (es : List BoundExpr) (e : Env) (start new : Draft)
    (ss : List ScalarCode) →
    EmitsAll start new (scalars_of ss) (emit_all (exprs_seen k es) (width_in k) e
    (drafted start).width) → length es ≡ length ss
as_many k es e start new ss d =
    sym (length-map (expr_seen k) es) ∙ sym (all-counted (map (expr_seen k) es) (width_in k) e
    (drafted start).width) ∙ ap scalar_count (sym d.scalars) ∙ scalars-counted ss

-- ---- CASE with an operand, of bound expressions

-- the first operand and the others
pub case_bound : {B : Type 0} → (k : Callees) (es bs : List BoundExpr) (x : BoundExpr) (e : Env)
    (start compared wide new : Draft) (first : ScalarCode) (ss : List ScalarCode) (m : ℕ)
    (r : Result ScalarCode B) →
    3 ≤ length es → x ≡ slice_index_or es 0 x → bs ≡ take (length es - 1) (drop 1 es) →
    Emits start compared (scalar_of first)
    (emit (expr_seen k x) (width_in k) e (drafted start).width) →
    m ≡ (drafted compared).width →
    (drafted wide).tree ≡ extend (more (scalar_of first) none) (drafted compared).tree →
    (drafted wide).width ≡ (drafted compared).width + 1 →
    EmitsAll wide new (scalars_of ss) (emit_all (exprs_seen k bs) (width_in k) e
    (drafted wide).width) →
    IfOk r (λ s. scalar_of s ≡ word case_word (against m (scalars_of ss))) →
    IfOk r (λ s. Emits start new (scalar_of s) (emit (case_of (map (expr_seen k) es)) (width_in k) e
    (drafted start).width))
case_bound k [] bs x e start compared wide new first ss m r many head tail one at tree
    columns others made = absurd (omega (arith, many))
case_bound k (y ∷ es) bs x e start compared wide new first ss m r many head tail one at tree
    columns others made =
    let rest_many : 2 ≤ length (map (expr_seen k) es) =
    subst (λ n. 2 ≤ n) (sym (length-map (expr_seen k) es)) (omega (arith, many)) in
    if_ok r (λ s. scalar_of s ≡ word case_word (against m (scalars_of ss)))
    (λ s. Emits start new (scalar_of s) (emit (case_of (map (expr_seen k) (y ∷ es))) (width_in k) e
    (drafted start).width)) made
    (λ s is. case_emits (expr_seen k y) (map (expr_seen k) es) (width_in k) e start compared wide
    new
    (scalar_of first) (scalars_of ss) (scalar_of s) m rest_many
    (subst (λ z. Emits start compared (scalar_of first)
    (emit (expr_seen k z) (width_in k) e (drafted start).width)) head one) at tree columns
    (subst (λ (ys : List BoundExpr). EmitsAll wide new (scalars_of ss)
    (emit_all (exprs_seen k ys) (width_in k) e (drafted wide).width))
    (tail ∙ take_all (length (y ∷ es) - 1) es (omega arith)) others) is)
