-- The variables of a compound statement.
use Rattle.std.proofs.Common.{◌≡◌, ℕ, zero, suc, ◌+◌, ◌<◌, ◌≤◌, true, false, nat_eq, List, [], ◌∷◌}
use Rattle.std.proofs.Common.{◌++◌, length, replicate, Ok, Err, refl, sym, ap, ◌∙◌, subst, arith}
use Rattle.std.proofs.Common.{inl, inr, length-append, append_assoc}
use Rattle.std.proofs.lemmas.List.{length-replicate, append-nil}
use Rattle.sql_values.specs.declared.value.Value.{Value}
use Rattle.sql_values.specs.declared.value.Value.TheVariants.{Null}
use Rattle.sql_values.specs.declared.value.SqlType.{SqlType}
use Rattle.sql_values.specs.Casts.{assigned}
use Rattle.sql_conditions.specs.Conditions.{Area}
use Rattle.row_types.specs.declared.cell.Cell.{Cell}
use Rattle.row_types.specs.declared.cell.Cell.TheVariants.{Val, Cond}
use Rattle.rel_algebra.specs.Tree.{Assign}
use Rattle.rel_algebra.specs.Endings.{Ending, cell_end, after, ending_of, op_value}
use Rattle.rel_algebra.specs.Emissions.{width}
use Rattle.rel_algebra.specs.Joins.{places}
use Rattle.rel_algebra.specs.Scopes.{Inputs, columns_in}
use Rattle.rel_algebra.specs.Plan.{Scalar, Sight, sight, added, cell_at, cells_at, cell_of}
use Rattle.rel_algebra.specs.Plan.{cells_of, shown, strictly}
use Rattle.rel_algebra.proofs.Growing.{Grows, grows_same, grown_columns}
use Rattle.rel_algebra.proofs.Nodes.{added_grows}
use Rattle.rel_algebra.proofs.Rows.{shown_append}
use Rattle.rel_algebra.specs.Leaves.{ValueLeaf}
use Rattle.rel_algebra.proofs.BodyHeld.{ValueRight, VariablesHold}
use Rattle.rel_algebra.specs.Bodies.{Perhaps, Without, With, Variables, NoVariable, MoreVariables}
use Rattle.rel_algebra.specs.BodyDoing.{Frame, End, Returning, Exiting, Outcome, Raising, Leaving}
use Rattle.rel_algebra.specs.BodyDoing.{Next}
use Rattle.rel_algebra.specs.BodyHandlers.{raising}
use Rattle.rel_algebra.specs.BodyMeaning.{value_in, declare}
use Rattle.rel_algebra.specs.BodySteps.{grow, stepped, run, guarded, tag}
use Rattle.rel_algebra.specs.BodyDispatch.{Env, Codes, count, judging, area_in}
use Rattle.rel_algebra.specs.BodyChain.{emitted, with_column, with_variables, variable_count}
use Rattle.rel_algebra.specs.BodyChain.{has_default, null_of, assigned_as, null_scalars, declared}
use Rattle.rel_algebra.specs.BodyChain.{emit_declares}
use Rattle.rel_algebra.proofs.BodyBase.{at, both, lower_differs, Rising, rising_below}
use Rattle.rel_algebra.proofs.BodyBase.{rising_append, Keeps, cells_at_append, front_at}
use Rattle.rel_algebra.proofs.BodyBase.{grown_cells}
use Rattle.rel_algebra.proofs.BodyRows.{puts, Wider, acts_off_wide, acts_on_wide}
use Rattle.rel_algebra.proofs.BodyLands.{Under, Seen, scopes_of, codes_of, place_of}
use Rattle.rel_algebra.proofs.BodyArms.{Sends}
use Rattle.rel_algebra.proofs.BodyHandled.{sends_bound}
use Rattle.rel_algebra.proofs.BodyJudged.{expr_yields, column_wide, column_cell, marked, marks}
use Rattle.rel_algebra.proofs.BodyJudged.{judged_area, judged_value}
use Rattle.sql_values.specs.declared.value.SqlType.TheVariants.{Integer, Boolean, Varchar}

-- ---- lists

places_split : (n k j : ℕ) → places n (k + j) ≡ places n k ++ places (n + k) j
places_split n zero j = both places _ _ _ _ (let e : n ≡ n + 0 = omega arith in e)
    (let e : 0 + j ≡ j = omega arith in e)
places_split n (suc k) j =
    ap (places n) (let e : suc k + j ≡ suc (k + j) = omega arith in e)
    ∙ ap (λ (is : List ℕ). n ∷ is) (places_split (suc n) k j
    ∙ ap (λ (i : ℕ). places (suc n) k ++ places i j)
    (let e : suc n + k ≡ n + suc k = omega arith in e))

pub null_cell : (t : SqlType) (s : Sight) → cell_of (null_of t) s ≡ Val Null
null_cell Integer s = refl
null_cell (Varchar n) s = refl
null_cell Boolean s = refl

null_cells : (t : SqlType) (k : ℕ) (s : Sight) → cells_of (null_scalars t k) s ≡ replicate k
    (Val Null)
null_cells t zero s = refl
null_cells t (suc k) s = both (λ (c : Cell) (cs : List Cell). c ∷ cs) _ _ _ _ (null_cell t s)
    (null_cells t k s)

as_cell : (t : SqlType) (E : Ending Value) → strictly (op_value (Assign t)) (cell_end E ∷ [])
    ≡ cell_end (after E (λ v. ending_of (assigned t v)))
as_cell t (Ok v) = refl
as_cell t (Err a) = refl

assigned_cell : (t : SqlType) (x : Scalar) (s : Sight) (E : Ending Value) → cell_of x s ≡ cell_end
    E → cell_of (assigned_as t x) s ≡ cell_end (after E (λ v. ending_of (assigned t v)))
assigned_cell t x s E h = ap (λ (c : Cell). strictly (op_value (Assign t)) (c ∷ [])) h ∙ as_cell t E

same_cells : (row : List Cell) (k p : ℕ) → cells_at row (replicate k p) ≡ replicate k
    (cell_at row p)
same_cells row zero p = refl
same_cells row (suc k) p = ap (λ (cs : List Cell). cell_at row p ∷ cs) (same_cells row k p)

shown_same : (k : ℕ) (v : Value) → shown (replicate k v) ≡ replicate k (Val v)
shown_same zero v = refl
shown_same (suc k) v = ap (λ (cs : List Cell). Val v ∷ cs) (shown_same k v)

-- ---- rows at other codes get wider

one_off : (w : Inputs) (o : List (List Cell)) (cs : Codes) (default : Perhaps) (k : ℕ) (t : SqlType)
    (env : Env) (from here base n : ℕ) (j : ℕ) → nat_eq j from ≡ false → (q : List Cell) → length q
    ≡ n → 0 < n →
    cell_at q 0 ≡ at j → Wider q k (stepped w o
    (declared default k t (columns_in w) cs env from here base n) q)
one_off w o cs Without k t env from here base n j x q l h c = (
  replicate k (Val Null),
  length-replicate k (Val Null),
  ap (λ (r : List Cell). q ++ r)
      (null_cells t k (sight w o q)),
)
one_off w o cs (With e) k t env from here base n j x q l h c =
    let a = emitted e (columns_in w) env n in let p = width a.nodes n in
    subst (λ (m : ℕ). Wider q m (stepped w o (declared (With e) k t (columns_in w) cs env from here
    base n) q)) (length-replicate k p)
    (acts_off_wide from (with_column a.nodes (assigned_as t a.scalar)) (suc p)
    (judging (tag from) cs env base here p []) n (replicate k p) w o q j l h
    (column_wide a.nodes (assigned_as t a.scalar) w o q n l) c x)

pub declares_off : (w : Inputs) (o : List (List Cell)) (cs : Codes) (vs : Variables) (env : Env)
    (from here base free n : ℕ) (j : ℕ) → nat_eq j from ≡ false → (q : List Cell) → length q ≡ n →
    0 < n →
    cell_at q 0 ≡ at j → Wider q (variable_count vs)
    (run w o (emit_declares vs (columns_in w) cs env from here base free n) q)
declares_off w o cs NoVariable env from here base free n j x q l h c =
    ([], refl, sym (append-nil q))
declares_off w o cs (MoreVariables k t default others) env from here base free n j x q l h c =
    let y = stepped w o (declared default k t (columns_in w) cs env from here base n) q in
    let a = one_off w o cs default k t env from here base n j x q l h c in
    let long : length y ≡ n + k = ap (λ (r : List Cell). length r) a.2
    ∙ (length-append q a.0 ∙ both (λ (u v : ℕ). u + v) _ _ _ _ l a.1) in
    let b = declares_off w o cs others (with_variables env n k) from here base free (n + k) j x y
    long (omega arith)
    (ap (λ (r : List Cell). cell_at r 0) a.2 ∙ (front_at q a.0 0 (omega (arith, l)) ∙ c)) in (
      a.0 ++ b.0,
      length-append a.0 b.0 ∙ both (λ (u v : ℕ). u + v) _ _ _ _ a.1 b.1,
      b.2 ∙ (ap (λ (r : List Cell). r ++ b.0) a.2 ∙ append_assoc q a.0 b.0),
    )

-- ---- rows at this code

-- the variables are there, or what a default raised is sent
pub record DeclaredRow (env : Env) (from n k : ℕ) (g : Frame) (q z : List Cell) : Type 0 where
  pub long : length z ≡ n + k
  pub code : cell_at z 0 ≡ at from
  pub shows : cells_at z (env.columns ++ places n k) ≡ shown g
  pub keeps : Keeps [] n q z

-- the row after declarations that raise: the area stands in it, and its code is where that is sent
pub record RaisedRow (w : Inputs) (env : Env) (here : ℕ) (seen : Seen) (base n k : ℕ) (a : Area)
    (f0 : Frame) (q z : List Cell) : Type 0 where
  pub to : ℕ
  pub sends : Sends w env here seen base a f0 (raising (scopes_of w seen) a f0) to
  pub long : length z ≡ n + k
  pub code : cell_at z 0 ≡ at to
  pub holds : cell_at z 2 ≡ Cond a
  pub keeps : Keeps [] n q z

-- the row after declarations
abbrev pub DeclaredEnd : Inputs → Env → ℕ → ℕ → Seen → ℕ → ℕ → ℕ → Frame → List Cell → List Cell →
    Ending Frame → Type 0
DeclaredEnd w env from here seen base n k f0 q z (Ok g) = DeclaredRow env from n k g q z
DeclaredEnd w env from here seen base n k f0 q z (Err a) = RaisedRow w env here seen base n k a f0 q
    z

-- one declaration
pub record OneDeclared (env : Env) (from n k : ℕ) (f : Frame) (v : Value) (q z : List Cell) : Type 0
  where
    pub long : length z ≡ n + k
    pub code : cell_at z 0 ≡ at from
    pub shows : cells_at z (env.columns ++ places n k) ≡ shown (f ++ replicate k v)
    pub keeps : Keeps [] n q z

added_shows : (env : Env) (n k : ℕ) (f : Frame) (v : Value) (y : List Cell) → length y ≡ n →
    Rising 3 env.columns n → cells_at y env.columns ≡ shown f →
    cells_at (y ++ replicate k (Val v)) (env.columns ++ places n k) ≡ shown (f ++ replicate k v)
added_shows env n k f v y l r s =
    let z = y ++ replicate k (Val v) in
    cells_at_append z env.columns (places n k)
    ∙ (both (λ (a b : List Cell). a ++ b) _ _ _ _
    (grown_cells 3 env.columns n y (replicate k (Val v)) r (omega (arith, l)) ∙ s)
    (grown_columns y (replicate k (Val v)) z n k l (length-replicate k (Val v)) (grows_same z)
    ∙ sym (shown_same k v))
    ∙ shown_append f (replicate k v))

one_nulls : (t : SqlType) (w : Inputs) (o : List (List Cell)) (env : Env) (from n k : ℕ) (f : Frame)
    (q : List Cell) → Rising 3 env.columns n → length q ≡ n → cells_at q env.columns ≡ shown f →
    cell_at q 0 ≡ at from →
    OneDeclared env from n k f Null q (stepped w o (grow (null_scalars t k)) q)
one_nulls t w o env from n k f q r l s c =
    subst (λ (x : List Cell). OneDeclared env from n k f Null q (q ++ x))
    (sym (null_cells t k (sight w o q)))
    (record {
      long = length-append q (replicate k (Val Null)) ∙ both (λ (u v : ℕ). u + v) _ _ _ _ l
          (length-replicate k (Val Null));
      code = front_at q (replicate k (Val Null)) 0
          (let h = rising_below 3 env.columns n r in omega (arith, l)) ∙ c;
      shows = added_shows env n k f Null q l r s;
      keeps = λ i lo hi p. front_at q (replicate k (Val Null)) i (omega (arith, l));
    })

-- the row after one declaration
abbrev OneEnd : Inputs → Env → ℕ → ℕ → Seen → ℕ → ℕ → ℕ → Frame → Frame → List Cell → List Cell →
    Ending Value → Type 0
OneEnd w env from here seen base n k f f0 q z (Ok v) = OneDeclared env from n k f v q z
OneEnd w env from here seen base n k f f0 q z (Err a) = RaisedRow w env here seen base n k a f0 q z

one_given : (w : Inputs) (o : List (List Cell)) (seen : Seen) (env : Env) (from here base n k p : ℕ)
    (f f0 : Frame) (q z : List Cell) (E : Ending Value) → Rising 3 env.columns n → length q ≡ n →
    cells_at q env.columns ≡ shown f →
    Grows q z → cell_at z p ≡ cell_end E →
    OneEnd w env from here seen base n k f f0 q
    (puts (judging (tag from) (codes_of w seen) env base here p []) (sight w o z) q ++ replicate k
    (cell_end E)) E
one_given w o seen env from here base n k p f f0 q z (Ok v) r l s g h =
    let h3 = rising_below 3 env.columns n r in let ca = cell_of (area_in p) (sight w o z) in
    let m = marks q n from ca l h3 in let y = marked q from ca in
    subst (λ (x : List Cell). OneDeclared env from n k f v q (x ++ replicate k (Val v)))
    (sym (judged_value w o seen (tag from) env base here p [] q z v from h refl))
    (record {
      long = length-append y (replicate k (Val v)) ∙ both (λ (a b : ℕ). a + b) _ _ _ _ m.long
          (length-replicate k (Val v));
      code = front_at y (replicate k (Val v)) 0 (let e = m.long in omega (arith, e)) ∙ m.code;
      shows = added_shows env n k f v y m.long r (m.shows env.columns r ∙ s);
      keeps = λ i lo hi pp. front_at y (replicate k (Val v)) i (let e = m.long in omega (arith, e))
          ∙ m.others i lo;
    })
one_given w o seen env from here base n k p f f0 q z (Err a) r l s g h =
    let h3 = rising_below 3 env.columns n r in
    let t = judged_area w o seen (tag from) env base here p [] q g.0 z a f0 g.1 h tt in
    let m = marks q n t.0 (Cond a) l h3 in let y = marked q t.0 (Cond a) in
    subst (λ (x : List Cell). RaisedRow w env here seen base n k a f0 q (x ++ replicate k (Cond a)))
    (sym t.1)
    (record {
      to = t.0;
      sends = t.2;
      long = length-append y (replicate k (Cond a)) ∙ both (λ (x b : ℕ). x + b) _ _ _ _ m.long
          (length-replicate k (Cond a));
      code = front_at y (replicate k (Cond a)) 0 (let e = m.long in omega (arith, e)) ∙ m.code;
      holds = front_at y (replicate k (Cond a)) 2 (let e = m.long in omega (arith, e)) ∙ m.area;
      keeps = λ i lo hi pp. front_at y (replicate k (Cond a)) i (let e = m.long in omega (arith, e))
          ∙ m.others i lo;
    })

one_default : (w : Inputs) (o : List (List Cell)) → (seen : Seen) (e : ValueLeaf) → ValueRight w e →
    (k : ℕ) (t : SqlType) (env : Env) (from here base n : ℕ) (f f0 : Frame) (q : List Cell) →
    Rising 3 env.columns n → length q ≡ n →
    cells_at q env.columns ≡ shown f → cell_at q 0 ≡ at from →
    OneEnd w env from here seen base n k f f0 q
    (stepped w o (declared (With e) k t (columns_in w) (codes_of w seen) env from here base n) q)
    (after (value_in w e f) (λ v. ending_of (assigned t v)))
one_default w o seen e pe k t env from here base n f f0 q r l s c =
    let a = emitted e (columns_in w) env n in let p = width a.nodes n in let pre =
    with_column a.nodes (assigned_as t a.scalar) in let z = added pre w o q in
    let stores = judging (tag from) (codes_of w seen) env base here p [] in let gs =
    cells_of (guarded from stores) (sight w o z) in
    let E = after (value_in w e f) (λ v. ending_of (assigned t v)) in
    let wide = column_wide a.nodes (assigned_as t a.scalar) w o q n l in
    let cell : cell_at z p ≡ cell_end E =
    column_cell a.nodes (assigned_as t a.scalar) w o q n l
    ∙ assigned_cell t a.scalar (sight w o (added a.nodes w o q)) (value_in w e f)
    (expr_yields w o e pe env n f q r l s (added a.nodes w o q)
    (grows_same (added a.nodes w o q))) in
    subst (λ (x : List Cell). OneEnd w env from here seen base n k f f0 q x E)
    (sym (acts_on_wide from pre (suc p) stores n (replicate k p) w o q l
    (let h = rising_below 3 env.columns n r in omega arith) wide c
    ∙ ap (λ (x : List Cell). puts stores (sight w o z) q ++ x)
    (same_cells (z ++ gs) k p ∙ ap (replicate k) (front_at z gs p (omega (arith, wide)) ∙ cell))))
    (one_given w o seen env from here base n k p f f0 q z E r l s (added_grows pre w o q) cell)

-- a row that was raised gets wider
raised_on : (w : Inputs) (o : List (List Cell)) (seen : Seen) (others : Variables) (env : Env)
    (from here base free n k : ℕ) → Under env here → here < from → base + count
    (codes_of w seen) ≤ from → (a : Area) (f0 : Frame) (q z : List Cell) → 3 ≤ n →
    RaisedRow w env here seen base n k a f0 q z →
    RaisedRow w env here seen base n (k + variable_count others) a f0 q
    (run w o (emit_declares others (columns_in w) (codes_of w seen) (with_variables env n k) from
    here base free (n + k)) z)
raised_on w o seen others env from here base free n k u hf bf a f0 q z h s =
    let bound = sends_bound w env here u seen base a f0 (raising (scopes_of w seen) a f0) s.to
    s.sends in
    let low : s.to < from = elim bound as (λ x. s.to < from)
    [ inl j ↦ omega arith | inr j ↦ let j1 = j.1 in omega arith ] in
    let t = declares_off w o (codes_of w seen) others (with_variables env n k) from here base free
    (n + k) s.to (lower_differs s.to from low) z s.long (omega arith) s.code in
    let l = s.long in
    record {
      to = s.to;
      sends = s.sends;
      long = ap (λ (r : List Cell). length r) t.2
          ∙ (length-append z t.0 ∙ (let e = t.1 in let g : length z + length t.0
          ≡ n + (k + variable_count others) = omega (arith, e, l) in g));
      code = ap (λ (r : List Cell). cell_at r 0) t.2
          ∙ (front_at z t.0 0 (omega (arith, l)) ∙ s.code);
      holds = ap (λ (r : List Cell). cell_at r 2) t.2
          ∙ (front_at z t.0 2 (omega (arith, l)) ∙ s.holds);
      keeps = λ i lo hi p. ap (λ (r : List Cell). cell_at r i) t.2
          ∙ (front_at z t.0 i (omega (arith, l)) ∙ s.keeps i lo hi p);
    }

-- what the others do, seen from the first
later : (w : Inputs) (env : Env) (from here : ℕ) (seen : Seen) (base n k j : ℕ) (f0 : Frame)
    (q y z : List Cell) (D : Ending Frame) → Keeps [] n q y →
    DeclaredEnd w (with_variables env n k) from here seen base (n + k) j f0 y z D → DeclaredEnd w
    env from here seen base n (k + j) f0 q z D
later w env from here seen base n k j f0 q y z (Ok g) kp d = record {
  long = d.long ∙ (let e : (n + k) + j ≡ n + (k + j) = omega arith in e);
  code = d.code;
  shows = ap (cells_at z) (ap (λ (is : List ℕ). env.columns ++ is) (places_split n k j)
      ∙ sym (append_assoc env.columns (places n k) (places (n + k) j))) ∙ d.shows;
  keeps = λ i lo hi p. d.keeps i lo (omega arith) p ∙ kp i lo hi p;
}
later w env from here seen base n k j f0 q y z (Err a) kp d = record {
  to = d.to;
  sends = moved (raising (scopes_of w seen) a f0) d.to d.sends;
  long = d.long ∙ (let e : (n + k) + j ≡ n + (k + j) = omega arith in e);
  code = d.code;
  holds = d.holds;
  keeps = λ i lo hi p. d.keeps i lo (omega arith) p ∙ kp i lo hi p;
}
  where
    moved : (e : End) (x : ℕ) → Sends w (with_variables env n k) here seen base a f0 e x →
        Sends w env here seen base a f0 e x
    moved e x s = elim s as (λ t. Sends w env here seen base a f0 e x) [
      | inl d ↦ inl (record {
        outcome = d.outcome;
        ends_so = d.ends_so;
        quiet = d.quiet;
        place =
            d.place ∙ same_place d.outcome;
      })
      | inr m ↦ inr m
    ]
      where
        same_place : (out : Outcome) → place_of (with_variables env n k) here out ≡ place_of env
            here out
        same_place Next = refl
        same_place (Leaving l) = refl
        same_place (Returning v) = refl
        same_place (Exiting l x) = refl
        same_place (Raising x) = refl

under_variables : (env : Env) (n k here : ℕ) → Under env here → Under (with_variables env n k) here
under_variables env n k here u = record {
  labels = u.labels;
  exits = u.exits;
  out = u.out;
  some =
      u.some;
}

pub declares_run : (w : Inputs) (o : List (List Cell)) → (seen : Seen) (vs : Variables) →
    VariablesHold vs (ValueRight w) → (env : Env) (from here base free n : ℕ) → Under env here →
    here < from →
    base + count (codes_of w seen) ≤ from →
    Rising 3 env.columns n → (f f0 : Frame) (q : List Cell) → length q ≡ n → cells_at q env.columns
    ≡ shown f → cell_at q 0 ≡ at from →
    DeclaredEnd w env from here seen base n (variable_count vs) f0 q
    (run w o (emit_declares vs (columns_in w) (codes_of w seen) env from here base free n) q)
    (declare vs w f)
declares_run w o seen NoVariable p env from here base free n u hf bf r f f0 q l s c = record {
  long = l ∙ (let e : n ≡ n + 0 = omega arith in e);
  code = c;
  shows = ap (cells_at q) (append-nil env.columns) ∙ s;
  keeps = λ i lo hi x. refl;
}
declares_run w o seen (MoreVariables k t Without others) p env from here base free n u hf bf r
    f f0 q l s c =
    let y = stepped w o (grow (null_scalars t k)) q in
    let a = one_nulls t w o env from n k f q r l s c in
    later w env from here seen base n k (variable_count others) f0 q y _
    (declare others w (f ++ replicate k Null)) a.keeps
    (declares_run w o seen others p.1 (with_variables env n k) from here base free (n + k)
    (under_variables env n k here u) hf bf (rising_append 3 env.columns n k r)
    (f ++ replicate k Null) f0 y a.long a.shows a.code)
declares_run w o seen (MoreVariables k t (With e) others) p env from here base free n u hf bf r
    f f0 q l s c =
    let y = stepped w o (declared (With e) k t (columns_in w) (codes_of w seen) env from here base
    n) q in
    subst (λ (D : Ending Frame). DeclaredEnd w env from here seen base n (k + variable_count others)
    f0 q (run w o (emit_declares others (columns_in w) (codes_of w seen) (with_variables env n k)
    from here base free (n + k)) y) D)
    (flat (value_in w e f))
    (go_on (after (value_in w e f) (λ v. ending_of (assigned t v))) y
    (λ v a. later w env from here seen base n k (variable_count others) f0 q y _
    (declare others w (f ++ replicate k v)) a.keeps
    (declares_run w o seen others p.1 (with_variables env n k) from here base free (n + k)
    (under_variables env n k here u) hf bf (rising_append 3 env.columns n k r) (f ++ replicate k v)
    f0 y a.long a.shows a.code))
    (one_default w o seen e p.0 k t env from here base n f f0 q r l s c))
  where
    flat : (E : Ending Value) → after (after E (λ v. ending_of (assigned t v)))
        (λ v. declare others w (f ++ replicate k v)) ≡ after E
        (λ x. after (ending_of (assigned t x)) (λ v. declare others w (f ++ replicate k v)))
    flat (Ok v) = refl
    flat (Err a) = refl

    go_on : (D : Ending Value) (y : List Cell) →
        ((v : Value) → OneDeclared env from n k f v q y →
        DeclaredEnd w env from here seen base n (k + variable_count others) f0 q
        (run w o (emit_declares others (columns_in w) (codes_of w seen) (with_variables env n k)
        from here base free (n + k)) y) (declare others w (f ++ replicate k v))) →
        OneEnd w env from here seen base n k f f0 q y D →
        DeclaredEnd w env from here seen base n (k + variable_count others) f0 q
        (run w o (emit_declares others (columns_in w) (codes_of w seen) (with_variables env n k)
        from here base free (n + k)) y)
        (after D (λ v. declare others w (f ++ replicate k v)))
    go_on (Ok v) y again a = again v a
    go_on (Err a) y again d = raised_on w o seen others env from here base free n k u hf bf a f0 q y
        (rising_below 3 env.columns n r) d

-- without a default nothing is raised
pub no_default : (vs : Variables) → has_default vs ≡ false → (w : Inputs) (f : Frame) → (g : Frame)
    × (declare vs w f ≡ Ok g)
no_default NoVariable h w f = (f, refl)
no_default (MoreVariables k t Without others) h w f = no_default others h w (f ++ replicate k Null)
no_default (MoreVariables k t (With e) others) h w f = absurd (clash h)
  where
    clash : true ≡ false → ⊥
    clash x = cc
