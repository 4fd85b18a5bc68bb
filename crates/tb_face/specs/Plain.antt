-- Data that its compact text alone stands for: whole numbers of 64 bits, texts of UTF-8, and members that ascend. This project's own.
use Rattle.std.specs.Prelude.{◌≡◌, ◌^◌, ◌<◌, IsUtf8, ⊤}
use Rattle.serde_json.specs.Data.{Num, unsigned, negative, float, Data, null, boolean, number, string, array, object, Items, no_items, item, Members, no_members, member, put}

abbrev pub IsSmall : Num → Type 0
IsSmall (unsigned n) = n < 2 ^ 64
IsSmall (negative z) = ⊥
IsSmall (float x) = ⊥

-- the members, put one after the other
abbrev pub put_all : Members → Members → Members
put_all no_members found = found
put_all (member k d ms) found = put_all ms (put k d found)

abbrev mutual
  pub IsPlain : Data → Type 0
  IsPlain null = ⊤
  IsPlain (boolean b) = ⊤
  IsPlain (number n) = IsSmall n
  IsPlain (string s) = IsUtf8 s
  IsPlain (array ds) = ItemsArePlain ds
  IsPlain (object ms) = (put_all ms no_members ≡ ms) × MembersArePlain ms

  pub ItemsArePlain : Items → Type 0
  ItemsArePlain no_items = ⊤
  ItemsArePlain (item d ds) = IsPlain d × ItemsArePlain ds

  pub MembersArePlain : Members → Type 0
  MembersArePlain no_members = ⊤
  MembersArePlain (member k d ms) = IsUtf8 k × IsPlain d × MembersArePlain ms
