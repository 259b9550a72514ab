-- What clap's walk over the words after a subcommand finds: words without fault leave rows whose
-- first value passes.
use Rattle.std.proofs.Common.{◌≡◌, ◌∙◌, ℕ, Bool, cond, true, false, zero, suc, refl, ap}
use Rattle.std.proofs.Common.{List, [], ◌∷◌, drop, length, Option, Some, None, is_some}
use Rattle.std.specs.Prelude.{◌&&◌, IfSome, encode_utf8, fold, if◌then◌else◌, not, slice_get}
use Rattle.std.specs.Option.{option_map_or}
use Rattle.std.specs.Str.{bytes_eq, chars}
use Rattle.clap.specs.Faults.{bundle_fault, bundle_step_fault, flag_word_fault, flags_fault}
use Rattle.clap.specs.Faults.{long_fault, option_fault, other_fault, positional_fault, react_fault}
use Rattle.clap.specs.Faults.{settle_fault, short_fault, step_fault, stray_fault, turn_fault}
use Rattle.clap.specs.Faults.{use_fault, walk_fault, word_fault}
use Rattle.clap.specs.Kinds.{Kinds, or_else}
use Rattle.clap.specs.Lexer.{long_of, short_of}
use Rattle.clap.specs.Simple.{Shape}
use Rattle.clap.specs.Walk.{Held, Outcome, Row, Rule, Step, Text, Waiting, Walk, after_flag}
use Rattle.clap.specs.Walk.{after_step, arg_by_id, arg_by_index, arg_by_long, arg_by_short}
use Rattle.clap.specs.Walk.{attached_value, bundle, bundle_met, bundle_step, done, flag_met}
use Rattle.clap.specs.Walk.{has_long, has_short, idle, is_pending, long_met, long_or_other, next}
use Rattle.clap.specs.Walk.{option, option_met, option_word, plain, plain_word, positional, pushed}
use Rattle.clap.specs.Walk.{reacted, refused, settled, settled_rows, short_met, short_or_plain}
use Rattle.clap.specs.Walk.{subcommand, subcommand_or_other, takes_several, takes_values}
use Rattle.clap.specs.Walk.{to_positional, trailing, used_by_id, value, waits, walked, walked_from}
use Rattle.clap.specs.Walk.{word_met}
use Rattle.clap.specs.declared.error.kind.ErrorKind.TheVariants.{TooManyValues}
use Rattle.psm_words.proofs.Rows.{AllFit, Fits, all_pass, first, found, second, used_passes}

-- what comes of a flag changes no row further
module _ (c : List Rule) where
  plain_rows : (waiting : Waiting) (word : Text) (h : Held) →
      (plain_word c waiting word h).0.rows ≡ h.rows
  plain_rows idle word h = refl
  plain_rows positional word h = refl
  plain_rows (option id) word h = go (arg_by_id c id)
    where
      go : (f : Option Rule) → (option_word f id word h).0.rows ≡ h.rows
      go None = refl
      go (Some a) = refl

  flag_rows : (waiting : Waiting) (word : Text) (h : Held) (o : Outcome) →
      (after_flag c waiting word h o).0.rows ≡ h.rows
  flag_rows waiting word h done = refl
  flag_rows waiting word h (waits id) = refl
  flag_rows waiting word h plain = plain_rows waiting word h
  flag_rows waiting word h refused = plain_rows waiting word h

module _ (o : Rule) (c : List Rule) (fits : AllFit o c) (again : Bool) where
  same_pass : (a b : List Row) → a ≡ b → all_pass o b ≡ true → all_pass o a ≡ true
  same_pass a b same p = ap (all_pass o) same ∙ p

  -- ---- one use

  -- the end of a use that waited for its value keeps it,
  pub settled_passes : (w : Option (Text × List Text)) (rows : List Row) →
      option_map_or (λ p. option_map_or (λ a. use_fault again a p.1 rows)
      (arg_by_id c p.0) []) w [] ≡ []
      → all_pass o rows ≡ true → all_pass o (settled_rows c w rows) ≡ true
  settled_passes None rows none p = p
  settled_passes (Some w) rows none p =
      go (arg_by_id c w.0) (found o (λ a. bytes_eq a.id w.0) c fits) none
    where
      go : (f : Option Rule) → IfSome f (Fits o) →
          option_map_or (λ a. use_fault again a w.1 rows) f [] ≡ []
          → all_pass o (used_by_id f w.1 rows) ≡ true
      go None fit none = p
      go (Some a) fit none = used_passes o again a w.1 rows fit none p

  -- and so does a use,
  reacted_passes : (a : Rule) → Fits o a → (values : List Text) (h : Held) →
      react_fault c again a values h ≡ [] → all_pass o h.rows ≡ true
      → all_pass o (reacted c a values h).rows ≡ true
  reacted_passes a fit values h none p =
      used_passes o again a values (settled c h).rows fit (second _ _ none)
      (settled_passes h.pending h.rows (first _ _ none) p)

  -- one with a value,
  option_passes : (a : Rule) → Fits o a → (v : Option Text) (h : Held) →
      option_fault c again a v h ≡ [] → all_pass o h.rows ≡ true
      → all_pass o (option_met c a v h).0.rows ≡ true
  option_passes a fit None h none p = settled_passes h.pending h.rows none p
  option_passes a fit (Some v) h none p = reacted_passes a fit (v ∷ []) h none p

  -- by its long name
  long_passes : (f : Option Rule) → IfSome f (Fits o) → (v : Option Text) (h : Held) →
      long_fault c again f v h ≡ [] → all_pass o h.rows ≡ true
      → all_pass o (long_met c f v h).0.rows ≡ true
  long_passes None fit v h none p = p
  long_passes (Some a) fit v h none p = go (takes_values a) v none
    where
      go : (b : Bool) (v : Option Text) → cond b (option_fault c again a v h)
          (cond (is_some v) (TooManyValues ∷ []) (react_fault c again a [] h)) ≡ []
          → all_pass o (cond b (option_met c a v h) (flag_met c a v h)).0.rows ≡ true
      go true v none = option_passes a fit v h none p
      go false None none = reacted_passes a fit [] h none p
      go false (Some v) none = p

  -- or by its short one
  short_passes : (f : Option Rule) → IfSome f (Fits o) → (rest : Text) (h : Held)
      (fault : Held → Kinds) (later : Held → Held × Outcome)
      → ((h : Held) → fault h ≡ [] → all_pass o h.rows ≡ true
      → all_pass o (later h).0.rows ≡ true)
      → short_fault c again f rest h fault ≡ [] → all_pass o h.rows ≡ true
      → all_pass o (short_met c f rest h later).0.rows ≡ true
  short_passes None fit rest h fault later keeps none p = p
  short_passes (Some a) fit rest h fault later keeps none p = go (takes_values a) none
    where
      go : (b : Bool) → cond b (option_fault c again a (attached_value rest) h)
          (or_else (react_fault c again a [] h) (fault (reacted c a [] h))) ≡ []
          → all_pass o (cond b (option_met c a (attached_value rest) h)
          (later (reacted c a [] h))).0.rows ≡ true
      go true none = option_passes a fit (attached_value rest) h none p
      go false none = keeps (reacted c a [] h) (second _ _ none)
          (reacted_passes a fit [] h (first _ _ none) p)

  -- ---- one word

  bundle_passes : (k : ℕ) (flags : Text) (skip : ℕ) (so_far : Outcome) (h : Held) →
      flags_fault c again k flags skip h ≡ [] → all_pass o h.rows ≡ true
      → all_pass o (bundle_met c k flags skip so_far h).0.rows ≡ true
  unfolding bundle_met flags_fault
  bundle_passes zero flags skip so_far h none p = p
  bundle_passes (suc k) flags skip so_far h none p = go (slice_get (chars flags) 0) skip
      (λ flags skip so_far h none p. bundle_passes k flags skip so_far h none p) none
    where
      go : (x : Option ℕ) (skip : ℕ) → ((flags : Text) (skip : ℕ) (so_far : Outcome) (h : Held)
          → flags_fault c again k flags skip h ≡ [] → all_pass o h.rows ≡ true
          → all_pass o (bundle_met c k flags skip so_far h).0.rows ≡ true)
          → bundle_step_fault c again x flags skip h (flags_fault c again k) ≡ []
          → all_pass o (bundle_step c x flags skip so_far h (bundle_met c k)).0.rows ≡ true
      go None skip later none = p
      go (Some x) zero later none =
          let rest = drop (length (encode_utf8 x)) flags in
          short_passes (arg_by_short c x)
          (found o (λ a. not (is_some a.index) && has_short a x) c fits) rest h
          (flags_fault c again k rest 0) (bundle_met c k rest 0 done)
          (λ h none p. later rest 0 done h none p) none p
      go (Some x) (suc skip) later none =
          later (drop (length (encode_utf8 x)) flags) skip so_far h none p

  flag_passes : (waiting : Waiting) (word : Text) (w : Option (Text × Option Text)) (h : Held) →
      flag_word_fault c again w word h ≡ [] → all_pass o h.rows ≡ true
      → all_pass o (long_or_other c waiting word w h).0.rows ≡ true
  flag_passes waiting word (Some w) h none p =
      let met = long_met c (arg_by_long c w.0) w.1 h in
      same_pass (after_flag c waiting word met.0 met.1).0.rows met.0.rows
      (flag_rows c waiting word met.0 met.1)
      (long_passes (arg_by_long c w.0)
      (found o (λ a. not (is_some a.index) && has_long a w.0) c fits) w.1 h none p)
  flag_passes waiting word None h none p = go (short_of word) none
    where
      go : (s : Option Text) → option_map_or (λ flags. bundle_fault c again flags h) s [] ≡ [] →
          all_pass o (short_or_plain c waiting word s h).0.rows ≡ true
      go None none = same_pass (plain_word c waiting word h).0.rows h.rows
          (plain_rows c waiting word h) p
      go (Some flags) none =
          let met = bundle c flags h in
          same_pass (after_flag c waiting word met.0 met.1).0.rows met.0.rows
          (flag_rows c waiting word met.0 met.1)
          (bundle_passes (length flags) flags h.skip plain (record h { skip = 0 }) none p)

  -- the word goes to a positional
  positional_passes : (word : Text) (w : Walk) (h : Held) (stray : Kinds) (f : Option Rule) →
      option_map_or (λ a. positional_fault c again a h) f stray ≡ [] → all_pass o h.rows ≡ true
      → all_pass o (to_positional c f word w h).held.rows ≡ true
  positional_passes word w h stray None none p = p
  positional_passes word w h stray (Some a) none p =
      go (is_pending a h.pending && takes_several a) none
    where
      go : (b : Bool) → cond b [] (settle_fault c again h) ≡ [] →
          all_pass o (pushed a.id word (cond b h (settled c h))).rows ≡ true
      go true none = p
      go false none = settled_passes h.pending h.rows none p

-- ---- the words after a subcommand that has none of its own

module _ (o : Rule) (s : Shape) (fits : AllFit o s.rules) where
  other_passes : (waiting : Waiting) (position : ℕ) (word : Text) (h : Held) →
      other_fault s None word h ≡ [] → all_pass o h.rows ≡ true
      → all_pass o (subcommand_or_other s.rules None waiting position word h).0.rows ≡ true
  other_passes waiting position word h none p = go (bytes_eq word (45 ∷ 45 ∷ [])) none
    where
      go : (b : Bool) → (if b then [] else flag_word_fault s.rules s.args_override_self
          (long_of word) word h) ≡ []
          → all_pass o (if b then (h, trailing position)
          else long_or_other s.rules waiting word (long_of word) h).0.rows ≡ true
      go true none = p
      go false none =
          flag_passes o s.rules fits s.args_override_self waiting word (long_of word) h none p

  word_passes : (is_trailing : Bool) (waiting : Waiting) (position : ℕ) (word : Text) (h : Held) →
      word_fault s [] is_trailing waiting word h ≡ [] → all_pass o h.rows ≡ true
      → all_pass o (word_met s.rules [] is_trailing waiting position word h).0.rows ≡ true
  word_passes true waiting position word h none p = p
  word_passes false idle position word h none p = other_passes idle position word h none p
  word_passes false positional position word h none p =
      other_passes positional position word h none p
  word_passes false (option id) position word h none p =
      other_passes (option id) position word h none p

  step_passes : (word : Text) (w : Walk) (h : Held) (step : Step) →
      step_fault s w.position h step ≡ [] → all_pass o h.rows ≡ true
      → all_pass o (after_step s.rules word w h step).held.rows ≡ true
  step_passes word w h (next waiting) none p = p
  step_passes word w h (trailing position) none p = p
  step_passes word w h (subcommand name) none p = p
  step_passes word w h value none p = positional_passes o s.rules fits s.args_override_self word w
      h (stray_fault s) (arg_by_index s.rules w.position) none p

  -- so one word without fault keeps it
  turn_passes : (w : Walk) (word : Text) → turn_fault s [] w word ≡ [] →
      all_pass o w.held.rows ≡ true → all_pass o (walked s.rules [] w word).held.rows ≡ true
  unfolding walked
  turn_passes w word none p = go w.stopped none
    where
      go : (x : Option (Text × List Text)) → (if is_some x then [] else or_else
          (word_fault s [] w.is_trailing w.waiting word w.held) (step_fault s w.position
          (word_met s.rules [] w.is_trailing w.waiting w.position word w.held).0
          (word_met s.rules [] w.is_trailing w.waiting w.position word w.held).1)) ≡ []
          → all_pass o (walked_from s.rules [] x w word).held.rows ≡ true
      go (Some stop) none = p
      go None none =
          let met = word_met s.rules [] w.is_trailing w.waiting w.position word w.held in
          step_passes word w met.0 met.1 (second _ _ none)
          (word_passes w.is_trailing w.waiting w.position word w.held (first _ _ none) p)

  -- and so do all the words
  pub words_pass : (w : Walk) (words : List Text) → walk_fault s [] w words ≡ [] →
      all_pass o w.held.rows ≡ true
      → all_pass o (fold (walked s.rules []) w words).held.rows ≡ true
  unfolding walk_fault
  words_pass w [] none p = p
  words_pass w (word ∷ words) none p = words_pass (walked s.rules [] w word) words
      (second _ _ none) (turn_passes w word (first _ _ none) p)
