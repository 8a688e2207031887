-- What a walk of `clap` over words of options comes to.
use Rattle.std.proofs.Common.{◌≡◌, ◌∙◌, ℕ, ◌+◌, ◌==◌, ◌&&◌, ◌||◌, Bool, cond, true, false, not, suc, refl, sym, ap, ap₂}
use Rattle.std.proofs.Common.{arith, List, [], ◌∷◌, map, length, take, drop, fold, find, Option, Some, None, option_map}
use Rattle.std.proofs.Common.{option_and_then, one-add, nat_lt, inl, inr, ◌⊎◌, true≢false, lt-ltb, eqb-true, subst}
use Rattle.std.specs.List.{after_first, before_first, list_all, list_any, position_or_len}
use Rattle.std.specs.Str.{bytes_eq}
use Rattle.std.proofs.lemmas.Slice.Eq.{bytes_eq-Decides}
use Rattle.clap.specs.Lexer.{long_of, short_of, strip_byte}
use Rattle.clap.specs.Kinds.{Kinds, or_else}
use Rattle.clap.specs.Faults.{long_fault, react_fault, settle_fault, step_fault, turn_fault, use_fault, walk_fault}
use Rattle.clap.specs.Faults.{word_fault}
use Rattle.clap.specs.Simple.{Shape, new_shape}
use Rattle.clap.specs.Walk.{Held, Row, Rule, Step, Text, Waiting, Walk, after_flag, after_step, arg_by_id, arg_by_index}
use Rattle.clap.specs.Walk.{arg_by_long, has_row, idle, long_met, option, settled, subcommand_met, next, value as alone}
use Rattle.clap.specs.Walk.{used, walked, word_met}
use Rattle.clap.specs.declared.builder.action.ArgAction.{ArgAction}
use Rattle.clap.specs.declared.builder.action.ArgAction.TheVariants.{Set, Append}
use Rattle.clap.specs.declared.error.kind.ErrorKind.TheVariants.{ArgumentConflict, InvalidValue}
use Rattle.clap.proofs.WalkLemmas.{both}
use Rattle.cnb_words.specs.declared.options.Given.{Given}
use Rattle.cnb_words.specs.Options.{begins_with_dash, has_equals, in_front, in_one_word, in_two_words, option_with}
use Rattle.cnb_words.specs.Options.{options_behind}
use Rattle.cnb_words.specs.Reading.{is_plain, option_rule}

-- ---- answers that may fail

module _ {A B : Type 0} where
  pub bind-none : (f : A → Option B) (o : Option A) → ((x : A) → f x ≡ None) → option_and_then f o ≡ None
  bind-none f None h = refl
  bind-none f (Some x) h = h x

  pub bind-same : (f g : A → Option B) (o : Option A) → ((x : A) → f x ≡ g x)
      → option_and_then f o ≡ option_and_then g o
  bind-same f g None h = refl
  bind-same f g (Some x) h = h x

bind-some : {A : Type 0} (o : Option A) → option_and_then (λ x. Some x) o ≡ o
bind-some None = refl
bind-some (Some x) = refl

-- nothing where there is a fault
abbrev pub guard : {A : Type 0} → Kinds → Option A → Option A
guard [] o = o
guard (k ∷ ks) o = None

module _ {A : Type 0} where
  pub guard-or : (a b : Kinds) (o : Option A) → guard (or_else a b) o ≡ guard a (guard b o)
  guard-or [] b o = refl
  guard-or (k ∷ ks) b o = refl

  guard-none : (a : Kinds) → guard {A = A} a None ≡ None
  guard-none [] = refl
  guard-none (k ∷ ks) = refl

  bind-guard : {B : Type 0} (f : A → Option B) (a : Kinds) (x : A)
      → option_and_then f (guard a (Some x)) ≡ guard a (f x)
  bind-guard f [] x = refl
  bind-guard f (k ∷ ks) x = refl

-- ---- options by name

-- an option that may stand several times, or only once, by its name
abbrev pub Kind : Type 0
Kind = Bool × Text

abbrev pub action_for : Bool → ArgAction
action_for true = Append
action_for false = Set

-- its rule, once the command is built
abbrev pub built_rule : Kind → Rule
built_rule k = record (option_rule (action_for k.0) k.1)
    { range = Some (record { start_inclusive = 1; end_inclusive = 1 }) }

abbrev pub seek : List Kind → Text → Option Kind
seek kinds name = find (λ k. bytes_eq k.1 name) kinds

abbrev pub undashed : List ℕ → Option Text
undashed name = option_and_then (strip_byte 45) (strip_byte 45 name)

same_bytes : (a : Text) → bytes_eq a a ≡ true
same_bytes a = (bytes_eq-Decides a a).1 refl

or-false : (b : Bool) → (b || false) ≡ b
or-false true = refl
or-false false = refl

by_long : (kinds : List Kind) (name : Text) → arg_by_long (map built_rule kinds) name
    ≡ option_map built_rule (seek kinds name)
by_long [] name = refl
by_long (k ∷ ks) name = go (bytes_eq k.1 name) (by_long ks name)
  where
    go : (b : Bool) → arg_by_long (map built_rule ks) name ≡ option_map built_rule (seek ks name)
        → cond (b || false) (Some (built_rule k)) (arg_by_long (map built_rule ks) name)
        ≡ option_map built_rule (cond b (Some k) (seek ks name))
    go true e = refl
    go false e = e

by_id : (kinds : List Kind) (name : Text) → arg_by_id (map built_rule kinds) name
    ≡ option_map built_rule (seek kinds name)
by_id [] name = refl
by_id (k ∷ ks) name = go (bytes_eq k.1 name) (by_id ks name)
  where
    go : (b : Bool) → arg_by_id (map built_rule ks) name ≡ option_map built_rule (seek ks name)
        → cond b (Some (built_rule k)) (arg_by_id (map built_rule ks) name)
        ≡ option_map built_rule (cond b (Some k) (seek ks name))
    go true e = refl
    go false e = e

pub seek_named : (kinds : List Kind) (name : Text) (k : Kind) → seek kinds name ≡ Some k → k.1 ≡ name
seek_named [] name k e = cc
seek_named (x ∷ xs) name k e = go (bytes_eq x.1 name) refl (seek_named xs name k) e
  where
    go : (b : Bool) → bytes_eq x.1 name ≡ b → (seek xs name ≡ Some k → k.1 ≡ name)
        → cond b (Some x) (seek xs name) ≡ Some k → k.1 ≡ name
    go true t rest e = let same : x ≡ k = cc in ap (λ (y : Kind). y.1) (sym same) ∙ (bytes_eq-Decides x.1 name).0 t
    go false t rest e = rest e

-- ---- rows

-- an option is put to the rows, unless it stands there and may not stand twice
abbrev pub put : Kind → Text → List Row → Option (List Row)
put (true, name) value rows = Some (used (built_rule (true, name)) (value ∷ []) rows)
put (false, name) value rows = cond (has_row name rows) None (Some (used (built_rule (false, name)) (value ∷ []) rows))

-- the same as `clap` judges it
some_bytes : (byte : ℕ) (bytes : List ℕ) → nat_lt 0 (length (byte ∷ bytes)) ≡ true
some_bytes byte bytes = lt-ltb 0 (length (byte ∷ bytes)) (omega arith)

put_by_fault : (k : Kind) (byte : ℕ) (bytes : List ℕ) (rows : List Row)
    → guard (use_fault false (built_rule k) ((byte ∷ bytes) ∷ []) rows)
    (Some (used (built_rule k) ((byte ∷ bytes) ∷ []) rows)) ≡ put k (byte ∷ bytes) rows
put_by_fault (true, name) byte bytes rows = rw (some_bytes byte bytes) refl
put_by_fault (false, name) byte bytes rows = rw (some_bytes byte bytes) (go (has_row name rows))
  where
    go : (b : Bool) → guard (or_else (cond (b && true) (ArgumentConflict ∷ []) []) [])
        (Some (used (built_rule (false, name)) ((byte ∷ bytes) ∷ []) rows))
        ≡ cond b None (Some (used (built_rule (false, name)) ((byte ∷ bytes) ∷ []) rows))
    go true = refl
    go false = refl

no_empty_value : {A : Type 0} (k : Kind) (rows : List Row) (o : Option A)
    → guard (use_fault false (built_rule k) ([] ∷ []) rows) o ≡ None
no_empty_value (true, name) rows o = refl
no_empty_value (false, name) rows o = go (has_row name rows)
  where
    go : (b : Bool) → guard (or_else (cond (b && true) (ArgumentConflict ∷ []) []) (InvalidValue ∷ [])) o ≡ None
    go true = refl
    go false = refl

-- ---- the reading that is to be

abbrev pub added_known : Option Kind → List ℕ → List Row → Option (List Row)
added_known None value rows = None
added_known (Some k) value rows = put k value rows

module _ (kinds : List Kind) where
  -- the rows with one option more
  abbrev pub added : List Row → Given → Option (List Row)
  added rows given = option_and_then (λ name. added_known (seek kinds name) given.value rows) (undashed given.name)

  abbrev pub added_all : List Row → List Given → Option (List Row)
  added_all rows [] = Some rows
  added_all rows (given ∷ rest) = option_and_then (λ more. added_all more rest) (added rows given)

  -- the rows with the options of words, behind a name whose value is still to come, if there is one
  abbrev pub taken : List Row → Option Text → List Text → Option (List Row)
  taken rows waiting words = option_and_then (added_all rows) (options_behind waiting words)

  abbrev pub with_next : List Row → List Text → Given → Option (List Row)
  with_next rows words given = option_and_then (λ more. taken more None words) (added rows given)

  front : (rows : List Row) (words : List Text) (one : Option Given)
      → option_and_then (added_all rows) (in_front one (options_behind None words))
      ≡ option_and_then (with_next rows words) one
  front rows words None = refl
  front rows words (Some given) = go (options_behind None words)
    where
      go : (rest : Option (List Given)) → option_and_then (added_all rows) (in_front (Some given) rest)
          ≡ option_and_then (λ more. option_and_then (added_all more) rest) (added rows given)
      go None = sym (bind-none _ (added rows given) (λ _. refl))
      go (Some rest) = refl

  pub taken_whole : (rows : List Row) (word : Text) (words : List Text) → has_equals word ≡ true
      → taken rows None (word ∷ words) ≡ option_and_then (with_next rows words) (in_one_word word)
  taken_whole rows word words h = rw h (front rows words (in_one_word word))

  pub taken_name : (rows : List Row) (word : Text) (words : List Text) → has_equals word ≡ false
      → taken rows None (word ∷ words) ≡ taken rows (Some word) words
  taken_name rows word words h = rw h refl

  pub taken_value : (rows : List Row) (name word : Text) (words : List Text)
      → taken rows (Some name) (word ∷ words) ≡ option_and_then (with_next rows words) (in_two_words name word)
  taken_value rows name word words = front rows words (in_two_words name word)

  -- an option of another name is none
  pub no_option : (rows : List Row) (words : List Text) (name value : Text)
      → option_and_then (seek kinds) (undashed name) ≡ None
      → option_and_then (with_next rows words) (option_with name value) ≡ None
  no_option rows words name [] unknown = refl
  no_option rows words name (byte ∷ bytes) unknown = go (undashed name) unknown
    where
      go : (o : Option Text) → option_and_then (seek kinds) o ≡ None
          → option_and_then (λ more. taken more None words)
          (option_and_then (λ n. added_known (seek kinds n) (byte ∷ bytes) rows) o) ≡ None
      go None e = refl
      go (Some n) e = rw e refl

  -- an option of this name
  an_option : (rows : List Row) (words : List Text) (k : Kind) (name n : Text) (byte : ℕ) (bytes : List ℕ)
      → undashed name ≡ Some n → seek kinds n ≡ Some k
      → option_and_then (with_next rows words) (option_with name (byte ∷ bytes))
      ≡ option_and_then (λ more. taken more None words) (put k (byte ∷ bytes) rows)
  an_option rows words k name n byte bytes dashed known = rw (dashed, known) refl

  pub no_waiting : (rows : List Row) (words : List Text) (name : Text)
      → option_and_then (seek kinds) (undashed name) ≡ None → taken rows (Some name) words ≡ None
  no_waiting rows [] name unknown = refl
  no_waiting rows (word ∷ words) name unknown = taken_value rows name word words ∙ go (begins_with_dash word)
    where
      go : (b : Bool) → option_and_then (with_next rows words) (cond b None (option_with name word)) ≡ None
      go true = refl
      go false = no_option rows words name word unknown

-- ---- words

-- a word that no dash leads
pub record IsValue (word : Text) : Type 0 where
  pub dash : begins_with_dash word ≡ false
  pub long : long_of word ≡ None
  pub short : short_of word ≡ None
  pub dashes : bytes_eq word (45 ∷ 45 ∷ []) ≡ false
  pub undashed : (p : Text → Text) → ((b : ℕ) (bs : List ℕ) → (b == 45) ≡ false → undashed (p (b ∷ bs)) ≡ None)
      → undashed (p []) ≡ None → undashed (p word) ≡ None

-- a word that begins with the name of an option
pub record IsName (word name : Text) (value : Option Text) : Type 0 where
  pub dash : begins_with_dash word ≡ true
  pub long : long_of word ≡ Some (name, value)
  pub dashes : bytes_eq word (45 ∷ 45 ∷ []) ≡ false

is_value : (word : Text) → begins_with_dash word ≡ false → IsValue word
is_value [] h = record { dash = refl; long = refl; short = refl; dashes = refl; undashed = λ p some none. none }
is_value (b ∷ bs) h = record {
  dash = h;
  long = rw h refl;
  short = rw h refl;
  dashes = rw h refl;
  undashed = λ p some none. some b bs h;
}

pub before-dash : (bytes : List ℕ) → before_first (λ b. b == 61) (45 ∷ bytes) ≡ 45 ∷ before_first (λ b. b == 61) bytes
before-dash bytes = ap (λ n. take n (45 ∷ bytes)) (one-add (position_or_len (λ b. b == 61) bytes))

after-dash : (bytes : List ℕ) → after_first (λ b. b == 61) (45 ∷ bytes) ≡ after_first (λ b. b == 61) bytes
after-dash bytes =
    let n = position_or_len (λ b. b == 61) bytes in
    let e : 1 + n + 1 ≡ suc (n + 1) = omega arith in
    ap (λ m. drop m (45 ∷ bytes)) e

pub no-dash-first : (b : ℕ) (bs : List ℕ) → (b == 45) ≡ false
    → strip_byte 45 (before_first (λ b. b == 61) (b ∷ bs)) ≡ None
no-dash-first b bs h = go (b == 61)
  where
    go : (t : Bool) → strip_byte 45 (take (cond (not t) (1 + position_or_len (λ b. b == 61) bs) 0) (b ∷ bs)) ≡ None
    go true = refl
    go false = ap (λ n. strip_byte 45 (take n (b ∷ bs))) (one-add (position_or_len (λ b. b == 61) bs)) ∙ rw h refl

no-dash-before : (b : ℕ) (bs : List ℕ) → (b == 45) ≡ false → undashed (before_first (λ b. b == 61) (b ∷ bs)) ≡ None
no-dash-before b bs h = ap (option_and_then (strip_byte 45)) (no-dash-first b bs h)

before-none : (bytes : List ℕ) → list_any (λ b. b == 61) bytes ≡ false → before_first (λ b. b == 61) bytes ≡ bytes
before-none [] h = refl
before-none (b ∷ bs) h = go (b == 61) h (before-none bs)
  where
    go : (t : Bool) → (t || list_any (λ b. b == 61) bs) ≡ false
        → (list_any (λ b. b == 61) bs ≡ false → before_first (λ b. b == 61) bs ≡ bs)
        → take (cond (not t) (1 + position_or_len (λ b. b == 61) bs) 0) (b ∷ bs) ≡ b ∷ bs
    go true e rest = absurd (true≢false e)
    go false e rest = ap (λ n. take n (b ∷ bs)) (one-add (position_or_len (λ b. b == 61) bs))
        ∙ ap (λ xs. b ∷ xs) (rest e)

plain_cases : (word : Text) → is_plain word ≡ true → (begins_with_dash word ≡ false)
    ⊎ ((byte : ℕ) × (bytes : List ℕ) × (word ≡ 45 ∷ 45 ∷ byte ∷ bytes))
plain_cases [] h = inl refl
plain_cases (b ∷ []) h = go (b == 45) refl h
  where
    go : (t : Bool) → (b == 45) ≡ t → cond t false true ≡ true → (begins_with_dash (b ∷ []) ≡ false)
        ⊎ ((byte : ℕ) × (bytes : List ℕ) × (b ∷ [] ≡ 45 ∷ 45 ∷ byte ∷ bytes))
    go true e f = absurd (true≢false (sym f))
    go false e f = inl e
plain_cases (b ∷ c ∷ []) h = go (b == 45) refl h
  where
    go : (t : Bool) → (b == 45) ≡ t → cond t false true ≡ true → (begins_with_dash (b ∷ c ∷ []) ≡ false)
        ⊎ ((byte : ℕ) × (bytes : List ℕ) × (b ∷ c ∷ [] ≡ 45 ∷ 45 ∷ byte ∷ bytes))
    go true e f = absurd (true≢false (sym f))
    go false e f = inl e
plain_cases (b ∷ c ∷ d ∷ ds) h = go (b == 45) refl (c == 45) refl h
  where
    go : (t : Bool) → (b == 45) ≡ t → (u : Bool) → (c == 45) ≡ u → cond t u true ≡ true
        → (begins_with_dash (b ∷ c ∷ d ∷ ds) ≡ false)
        ⊎ ((byte : ℕ) × (bytes : List ℕ) × (b ∷ c ∷ d ∷ ds ≡ 45 ∷ 45 ∷ byte ∷ bytes))
    go false e u f g = inl e
    go true e false f g = absurd (true≢false (sym g))
    go true e true f g = inr (d, ds, ap₂ (λ x y. x ∷ y ∷ d ∷ ds) (eqb-true b 45 e) (eqb-true c 45 f))

-- ---- the walk

module _ (kinds : List Kind) where
  abbrev rules : List Rule
  rules = map built_rule kinds

  -- the command, once it is built
  abbrev pub shape : Shape
  shape = record (new_shape []) {
    no_binary_name = true;
    disable_help_flag = true;
    disable_help_subcommand = true;
    is_built = true;
    rules = rules;
  }

  abbrev at : Held → Waiting → Walk
  at h waiting = record { held = h; waiting = waiting; position = 1; is_trailing = false; stopped = None }

  abbrev settled_now : Held → Option (List Row)
  settled_now h = guard (settle_fault rules false h) (Some (settled rules h).rows)

  abbrev pub run : Walk → List Text → Option (List Row)
  run w words = guard (walk_fault shape [] w words) (settled_now (fold (walked rules []) w words).held)

  abbrev turn : Held → Waiting → Text → List Text → Kinds → Held × Step → Option (List Row)
  turn h waiting word words fault met = guard (or_else fault (step_fault shape 1 met.0 met.1))
      (run (after_step rules word (at h waiting) met.0 met.1) words)

  run_more : (h : Held) (waiting : Waiting) (word : Text) (words : List Text)
      → run (at h waiting) (word ∷ words) ≡ turn h waiting word words (word_fault shape [] false waiting word h)
      (word_met rules [] false waiting 1 word h)
  unfolding walked walk_fault
  run_more h waiting word words =
      guard-or (turn_fault shape [] (at h waiting) word)
      (walk_fault shape [] (walked rules [] (at h waiting) word) words)
      (settled_now (fold (walked rules []) (at h waiting) (word ∷ words)).held)

  no_place : (ks : List Kind) → arg_by_index (map built_rule ks) 1 ≡ None
  no_place [] = refl
  no_place (k ∷ ks) = no_place ks

  -- ---- a value

  value_idle : (h : Held) (word : Text) → IsValue word
      → (word_fault shape [] false idle word h ≡ []) × (word_met rules [] false idle 1 word h ≡ (h, alone))
  value_idle h word w =
      let dashes = w.dashes in
      let long = w.long in
      let short = w.short in
      (rw (dashes, long, short) refl, rw (dashes, long, short) refl)

  stray : (h : Held) (word : Text) (words : List Text) → IsValue word → run (at h idle) (word ∷ words) ≡ None
  stray h word words w =
      run_more h idle word words ∙ ap₂ (turn h idle word words) (value_idle h word w).0 (value_idle h word w).1
      ∙ rw (no_place kinds) refl

  -- ---- the name of an option

  long_faults : (h : Held) (waiting : Waiting) (word name : Text) (value : Option Text) → IsName word name value
      → subcommand_met [] waiting word ≡ None
      → word_fault shape [] false waiting word h ≡ long_fault rules false
      (option_map built_rule (seek kinds name)) value h
  long_faults h waiting word name value w none =
      let dashes = w.dashes in
      let long = w.long in
      let here : word_fault shape [] false waiting word h ≡ long_fault rules false
      (arg_by_long rules name) value h = rw (none, dashes, long) refl in
      here ∙ ap (λ o. long_fault rules false o value h) (by_long kinds name)

  abbrev long_turn : Waiting → Text → Option Rule → Option Text → Held → Held × Step
  long_turn waiting word o value h = after_flag rules waiting word (long_met rules o value h).0
      (long_met rules o value h).1

  long_meets : (h : Held) (waiting : Waiting) (word name : Text) (value : Option Text) → IsName word name value
      → subcommand_met [] waiting word ≡ None
      → word_met rules [] false waiting 1 word h ≡ long_turn waiting word
      (option_map built_rule (seek kinds name)) value h
  long_meets h waiting word name value w none =
      let dashes = w.dashes in
      let long = w.long in
      let here : word_met rules [] false waiting 1 word h ≡ long_turn waiting word
      (arg_by_long rules name) value h = rw (none, dashes, long) refl in
      here ∙ ap (λ o. long_turn waiting word o value h) (by_long kinds name)

  long_step : (h : Held) (waiting : Waiting) (word name : Text) (value : Option Text) (words : List Text)
      (o : Option Kind) → IsName word name value
      → subcommand_met [] waiting word ≡ None → seek kinds name ≡ o
      → run (at h waiting) (word ∷ words) ≡ turn h waiting word words
      (long_fault rules false (option_map built_rule o) value h)
      (long_turn waiting word (option_map built_rule o) value h)
  long_step h waiting word name value words o w none known =
      run_more h waiting word words ∙ ap₂ (turn h waiting word words)
      (long_faults h waiting word name value w none) (long_meets h waiting word name value w none)
      ∙ ap (λ o. turn h waiting word words (long_fault rules false (option_map built_rule o) value h)
      (long_turn waiting word (option_map built_rule o) value h)) known

  -- a name that the command doesn't know
  unknown_step : (h : Held) (waiting : Waiting) (word name : Text) (value : Option Text) (words : List Text)
      → IsName word name value
      → subcommand_met [] waiting word ≡ None → seek kinds name ≡ None → run (at h waiting) (word ∷ words) ≡ None
  unknown_step h waiting word name value words w none unknown = long_step h waiting word name value words None w
      none unknown

  -- an option in one word
  whole_step : (h : Held) (word name value : Text) (words : List Text) (k : Kind) → IsName word name (Some value)
      → seek kinds name ≡ Some k
      → run (at h idle) (word ∷ words) ≡ guard (settle_fault rules false h)
      (guard (use_fault false (built_rule k) (value ∷ []) (settled rules h).rows)
      (run (at (record h { rows = used (built_rule k) (value ∷ []) (settled rules h).rows; pending = None }) idle)
      words))
  whole_step h word name value words k w known =
      let fault = react_fault rules false (built_rule k) (value ∷ []) h in
      long_step h idle word name (Some value) words (Some k) w refl known
      ∙ guard-or fault [] (run (at (record h {
        rows = used (built_rule k) (value ∷ [])
            (settled rules h).rows;
        pending = None;
      }) idle) words)
      ∙ guard-or (settle_fault rules false h) (use_fault false (built_rule k) (value ∷ []) (settled rules h).rows)
      (run (at (record h { rows = used (built_rule k) (value ∷ []) (settled rules h).rows; pending = None })
      idle) words)

  -- the name of an option whose value is still to come
  name_step : (h : Held) (word name : Text) (words : List Text) (k : Kind) → IsName word name None
      → seek kinds name ≡ Some k
      → run (at h idle) (word ∷ words) ≡ guard (settle_fault rules false h)
      (run (at (record (settled rules h) { pending = Some (k.1, []) }) (option k.1)) words)
  name_step h word name words k w known =
      long_step h idle word name None words (Some k) w refl known
      ∙ guard-or (settle_fault rules false h) [] (run
      (at (record (settled rules h) { pending = Some (k.1, []) }) (option k.1)) words)

  -- ---- an option whose value is still to come

  module _ (rows : List Row) (skip : ℕ) (k : Kind) (known : seek kinds k.1 ≡ Some k) where
    abbrev open_held : List Text → Held
    open_held values = record { rows = rows; pending = Some (k.1, values); skip = skip }

    found : arg_by_id rules k.1 ≡ Some (built_rule k)
    found = by_id kinds k.1 ∙ ap (option_map built_rule) known

    open_fault : (values : List Text) → settle_fault rules false (open_held values)
        ≡ use_fault false (built_rule k) values rows
    open_fault values = rw found refl

    open_rows : (values : List Text) → (settled rules (open_held values)).rows ≡ used (built_rule k) values rows
    open_rows values = rw found refl

    -- no value comes
    open_end : settled_now (open_held []) ≡ None
    open_end = rw found refl

    open_name : (word name : Text) (value : Option Text) (words : List Text) → IsName word name value
        → run (at (open_held []) (option k.1)) (word ∷ words) ≡ None
    open_name word name value words w = go (seek kinds name) value
        (long_step (open_held []) (option k.1) word name value words (seek kinds name) w refl refl)
      where
        go : (o : Option Kind) (value : Option Text)
            → run (at (open_held []) (option k.1)) (word ∷ words) ≡ turn (open_held []) (option k.1) word words
            (long_fault rules false (option_map built_rule o) value (open_held []))
            (long_turn (option k.1) word (option_map built_rule o) value (open_held []))
            → run (at (open_held []) (option k.1)) (word ∷ words) ≡ None
        go None value e = e
        go (Some x) (Some v) e = e ∙ rw found refl
        go (Some x) None e = e ∙ rw found refl

    open_value : (word : Text) (words : List Text) → IsValue word
        → run (at (open_held []) (option k.1)) (word ∷ words) ≡ run (at (open_held (word ∷ [])) idle) words
    open_value word words w =
        let dashes = w.dashes in
        let long = w.long in
        let short = w.short in
        let fault : word_fault shape [] false (option k.1) word (open_held []) ≡ [] = rw (dashes, long, short) refl in
        let met : word_met rules [] false (option k.1) 1 word (open_held [])
        ≡ (open_held (word ∷ []), next idle) = rw (dashes, long, short, found, same_bytes k.1) refl in
        run_more (open_held []) (option k.1) word words ∙ ap₂ (turn (open_held []) (option k.1) word words) fault met

  -- ---- the law

  abbrev pub IdleLaw : List Text → Type 0
  IdleLaw words = (h : Held) → run (at h idle) words ≡ option_and_then (λ rows. taken kinds rows None words)
      (settled_now h)

  abbrev pub OpenLaw : List Text → Type 0
  OpenLaw words = (rows : List Row) (skip : ℕ) (k : Kind) (name : Text) → seek kinds k.1 ≡ Some k
      → undashed name ≡ Some k.1
      → run (at (record { rows = rows; pending = Some (k.1, []); skip = skip }) (option k.1)) words
      ≡ taken kinds rows (Some name) words

  -- an option that is put, as `clap` judges it and as it is read
  one_option : (rows : List Row) (words : List Text) (k : Kind) (name n said : Text) → undashed name ≡ Some n
      → seek kinds n ≡ Some k
      → guard (use_fault false (built_rule k) (said ∷ []) rows)
      (taken kinds (used (built_rule k) (said ∷ []) rows) None words)
      ≡ option_and_then (with_next kinds rows words) (option_with name said)
  one_option rows words k name n [] dashed known = no_empty_value k rows
      (taken kinds (used (built_rule k) ([] ∷ []) rows) None words)
  one_option rows words k name n (b ∷ bs) dashed known =
      sym (bind-guard (λ more. taken kinds more None words) (use_fault false (built_rule k) ((b ∷ bs) ∷ []) rows)
      (used (built_rule k) ((b ∷ bs) ∷ []) rows))
      ∙ ap (option_and_then (λ more. taken kinds more None words)) (put_by_fault k b bs rows)
      ∙ sym (an_option kinds rows words k name n b bs dashed known)

  law_end : IdleLaw []
  unfolding walk_fault
  law_end h = sym (bind-some (settled_now h))

  open_law_end : OpenLaw []
  unfolding walk_fault
  open_law_end rows skip k name known dashed = open_end rows skip k known

  value_taken : (rows : List Row) (word : Text) (words : List Text) → IsValue word
      → taken kinds rows None (word ∷ words) ≡ None
  value_taken rows word words w = go (has_equals word) refl
    where
      go : (b : Bool) → has_equals word ≡ b → taken kinds rows None (word ∷ words) ≡ None
      go true e = taken_whole kinds rows word words e
          ∙ no_option kinds rows words (before_first (λ b. b == 61) word) (after_first (λ b. b == 61) word)
          (ap (option_and_then (seek kinds)) (w.undashed (before_first (λ b. b == 61)) no-dash-before refl))
      go false e = taken_name kinds rows word words e ∙ no_waiting kinds rows words word
          (ap (option_and_then (seek kinds)) (w.undashed (λ x. x) (λ b bs h. rw h refl) refl))

  law_value : (word : Text) (words : List Text) → IsValue word → IdleLaw (word ∷ words)
  law_value word words w h = stray h word words w
      ∙ sym (bind-none (λ rows. taken kinds rows None (word ∷ words)) (settled_now h)
      (λ rows. value_taken rows word words w))

  open_law_value : (word : Text) (words : List Text) → IsValue word → IdleLaw words → OpenLaw (word ∷ words)
  open_law_value word words w law rows skip k name known dashed =
      let held : Held = open_held rows skip k known (word ∷ []) in
      let settles : settled_now held ≡ guard (use_fault false (built_rule k) (word ∷ []) rows)
      (Some (used (built_rule k) (word ∷ []) rows)) =
      ap₂ (λ (a : Kinds) (b : List Row). guard a (Some b)) (open_fault rows skip k known (word ∷ []))
      (open_rows rows skip k known (word ∷ [])) in
      let plain = w.dash in
      let two : in_two_words name word ≡ option_with name word = rw plain refl in
      open_value rows skip k known word words w ∙ law held ∙ ap
      (option_and_then (λ more. taken kinds more None words)) settles
      ∙ bind-guard (λ more. taken kinds more None words) (use_fault false (built_rule k) (word ∷ []) rows)
      (used (built_rule k) (word ∷ []) rows)
      ∙ one_option rows words k name k.1 word dashed known ∙ ap (option_and_then (with_next kinds rows words))
      (sym two) ∙ sym (taken_value kinds rows name word words)

  module _ (byte : ℕ) (bytes : List ℕ) (words : List Text) where
    abbrev tail : Text
    tail = byte ∷ bytes

    abbrev word : Text
    word = 45 ∷ 45 ∷ tail

    abbrev front_of : Text → Text
    front_of = before_first (λ b. b == 61)

    abbrev back_of : Text → Text
    back_of = after_first (λ b. b == 61)

    front_is : front_of word ≡ 45 ∷ 45 ∷ front_of tail
    front_is = before-dash (45 ∷ tail) ∙ ap (λ xs. 45 ∷ xs) (before-dash tail)

    back_is : back_of word ≡ back_of tail
    back_is = after-dash (45 ∷ tail) ∙ after-dash tail

    is_name : (b : Bool) → has_equals tail ≡ b → IsName word (front_of tail) (cond b (Some (back_of tail)) None)
    is_name b e = record {
      dash = refl;
      long = ap (λ t. Some (front_of tail, cond t (Some (back_of tail)) None))
          e;
      dashes = refl;
    }

    name_undashed : undashed (front_of word) ≡ Some (front_of tail)
    name_undashed = ap undashed front_is

    open_law_name : OpenLaw (word ∷ words)
    open_law_name rows skip k name known dashed =
        open_name rows skip k known word (front_of tail) (cond (has_equals tail) (Some (back_of tail)) None) words
        (is_name (has_equals tail) refl)
        ∙ sym (taken_value kinds rows name word words)

    law_whole : IdleLaw words → has_equals tail ≡ true → IdleLaw (word ∷ words)
    law_whole law e h = go (seek kinds (front_of tail)) refl
      where
        go : (o : Option Kind) → seek kinds (front_of tail) ≡ o
            → run (at h idle) (word ∷ words) ≡ option_and_then (λ rows. taken kinds rows None (word ∷ words))
            (settled_now h)
        go None unknown =
            unknown_step h idle word (front_of tail) (Some (back_of tail)) words (is_name true e) refl unknown
            ∙ sym (bind-none (λ rows. taken kinds rows None (word ∷ words)) (settled_now h)
            (λ rows. taken_whole kinds rows word words e
            ∙ no_option kinds rows words (front_of word) (back_of word)
            (ap (option_and_then (seek kinds)) name_undashed ∙ unknown)))
        go (Some k) known =
            let rows = (settled rules h).rows in
            whole_step h word (front_of tail) (back_of tail) words k (is_name true e) known
            ∙ ap (λ o. guard (settle_fault rules false h)
            (guard (use_fault false (built_rule k) (back_of tail ∷ []) rows) o))
            (law (record h { rows = used (built_rule k) (back_of tail ∷ []) rows; pending = None }))
            ∙ ap (guard (settle_fault rules false h)) (one_option rows words k (front_of word) (front_of tail)
            (back_of tail) name_undashed known
            ∙ ap (λ said. option_and_then (with_next kinds rows words) (option_with (front_of word) said))
            (sym back_is) ∙ sym (taken_whole kinds rows word words e))
            ∙ sym (bind-guard (λ rows. taken kinds rows None (word ∷ words)) (settle_fault rules false h) rows)

    law_name : OpenLaw words → has_equals tail ≡ false → IdleLaw (word ∷ words)
    law_name law e h = go (seek kinds (front_of tail)) refl
      where
        all : front_of tail ≡ tail
        all = before-none tail e

        go : (o : Option Kind) → seek kinds (front_of tail) ≡ o
            → run (at h idle) (word ∷ words) ≡ option_and_then (λ rows. taken kinds rows None (word ∷ words))
            (settled_now h)
        go None unknown =
            unknown_step h idle word (front_of tail) None words (is_name false e) refl unknown
            ∙ sym (bind-none (λ rows. taken kinds rows None (word ∷ words)) (settled_now h)
            (λ rows. taken_name kinds rows word words e
            ∙ no_waiting kinds rows words word (ap (seek kinds) (sym all) ∙ unknown)))
        go (Some k) known =
            let rows = (settled rules h).rows in
            let named : k.1 ≡ front_of tail = seek_named kinds (front_of tail) k known in
            name_step h word (front_of tail) words k (is_name false e) known
            ∙ ap (guard (settle_fault rules false h)) (law rows h.skip k word (ap (seek kinds) named ∙ known)
            (ap Some (sym (named ∙ all))) ∙ sym (taken_name kinds rows word words e))
            ∙ sym (bind-guard (λ rows. taken kinds rows None (word ∷ words)) (settle_fault rules false h) rows)

    law_dashed : IdleLaw words → OpenLaw words → IdleLaw (word ∷ words)
    law_dashed law open_law = go (has_equals tail) refl
      where
        go : (b : Bool) → has_equals tail ≡ b → IdleLaw (word ∷ words)
        go true e = law_whole law e
        go false e = law_name open_law e

  law_more : (word : Text) (words : List Text) → is_plain word ≡ true → IdleLaw words → OpenLaw words
      → IdleLaw (word ∷ words) × OpenLaw (word ∷ words)
  law_more word words plain law open_law = elim (plain_cases word plain) [
    | inl dash ↦ (law_value word words (is_value word dash), open_law_value word words (is_value word dash) law)
    | inr named ↦ subst (λ w. IdleLaw (w ∷ words) × OpenLaw (w ∷ words)) (sym named.2)
        (law_dashed named.0 named.1 words law open_law, open_law_name named.0 named.1 words)
  ]

  pub walk_law : (words : List Text) → list_all is_plain words ≡ true → IdleLaw words × OpenLaw words
  walk_law [] h = (law_end, open_law_end)
  walk_law (word ∷ words) h =
      let plain = both (is_plain word) (list_all is_plain words) h in
      let rest = walk_law words plain.1 in
      law_more word words plain.0 rest.0 rest.1
