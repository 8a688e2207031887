-- What is put into a table's map.
use Rattle.std.proofs.Common.{◌≡◌, ℕ, ◌≤◌, true, List, [], ◌∷◌, String, Global, Ordering, Less, Equal, Greater, nat_cmp}
use Rattle.std.proofs.Common.{string_bytes, refl, ◌∙◌, arith}
use Rattle.std.specs.BTreeMap.{insert_entry}
use Rattle.std.specs.Cmp.Lexicographic.{slice_cmp}
use Rattle.std.specs.Ordering.{match_ordering}
use Rattle.std.specs.String.{string_cmp}
use Rattle.std.proofs.lemmas.Bool.{and_parts, and_from}
use Rattle.toml.specs.Data.{Data, Members, no_members, member, depth, members_depth, has_valid_dates}
use Rattle.toml.specs.Data.{members_have_valid_dates}
use Rattle.toml.specs.View.{view, members_view}
use Rattle.toml.specs.declared.value.Value.{Value}
use Rattle.toml.proofs.Views.{Entry}
use Rattle.cnb_toml.specs.Writing.{put}

members_view-match_ordering : (o : Ordering) (a b c : List Entry)
    → members_view (match_ordering o a b c) ≡ match_ordering o (members_view a) (members_view b) (members_view c)
members_view-match_ordering Less a b c = refl
members_view-match_ordering Equal a b c = refl
members_view-match_ordering Greater a b c = refl

pub members_view-insert_entry : (es : List Entry) (k : String Global) (v : Value)
    → members_view (insert_entry string_cmp es k v) ≡ put (string_bytes k) (view v) (members_view es)
members_view-insert_entry [] k v = refl
members_view-insert_entry (e ∷ es) k v = members_view-match_ordering (string_cmp k e.0) _ _ _
    ∙ rw (members_view-insert_entry es k v)

dates_at : (o : Ordering) (key other : List ℕ) (value old : Data) (rest more : Members)
    → has_valid_dates value ≡ true → has_valid_dates old ≡ true
    → members_have_valid_dates rest ≡ true → members_have_valid_dates more ≡ true
    → members_have_valid_dates (match_ordering o (member key value (member other old rest))
    (member other value rest) (member other old more)) ≡ true
dates_at Less key other value old rest more v o r m = and_from _ _ v (and_from _ _ o r)
dates_at Equal key other value old rest more v o r m = and_from _ _ v r
dates_at Greater key other value old rest more v o r m = and_from _ _ o m

pub put-dates : (key : List ℕ) (value : Data) (all : Members) → has_valid_dates value ≡ true
    → members_have_valid_dates all ≡ true → members_have_valid_dates (put key value all) ≡ true
put-dates key value no_members v a = and_from _ _ v refl
put-dates key value (member other old rest) v a =
    let parts = and_parts (has_valid_dates old) (members_have_valid_dates rest) a in
    dates_at (slice_cmp nat_cmp key other) key other value old rest (put key value rest) v parts.0 parts.1
    (put-dates key value rest v parts.1)

depth_at : (o : Ordering) (key other : List ℕ) (value old : Data) (rest more : Members) (bound : ℕ)
    → depth value ≤ bound → depth old ≤ bound
    → members_depth rest ≤ bound → members_depth more ≤ bound
    → members_depth (match_ordering o (member key value (member other old rest)) (member other value rest)
    (member other old more)) ≤ bound
depth_at Less key other value old rest more bound v o r m = omega arith
depth_at Equal key other value old rest more bound v o r m = omega arith
depth_at Greater key other value old rest more bound v o r m = omega arith

pub put-depth : (key : List ℕ) (value : Data) (all : Members) (bound : ℕ) → depth value ≤ bound
    → members_depth all ≤ bound → members_depth (put key value all) ≤ bound
put-depth key value no_members bound v a = omega arith
put-depth key value (member other old rest) bound v a =
    depth_at (slice_cmp nat_cmp key other) key other value old rest (put key value rest) bound v (omega arith)
    (omega arith) (put-depth key value rest bound v (omega arith))
