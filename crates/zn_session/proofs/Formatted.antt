-- The line that formats a device.
use Rattle.std.proofs.Common.{◌≡◌, ℕ, true, false, List, [], Option, Some, None, Result, Ok, Err, refl, sym, ap, ◌∙◌, subst, inl, inr, arith}
use Rattle.std.specs.Prelude.{◌⊎◌}
use Rattle.std.proofs.lemmas.Bool.{false≢true}
use Rattle.zn_truth.specs.World.{geometry_of}
use Rattle.zn_device.specs.States.{DeviceState}
use Rattle.zn_model.specs.declared.answers.OptError.{OptError}
use Rattle.zn_model.specs.declared.answers.Refusal.{Refusal}
use Rattle.zn_model.specs.declared.files.FormatOpts.{FormatOpts}
use Rattle.zn_model.specs.declared.handles.Handle.{Handle}
use Rattle.zn_model.specs.Formatting.{FormatAnswer, super_block_by}
use Rattle.zn_lines.specs.Lines.{FormatWords, Mkfs}
use Rattle.zn_lines.specs.ReplyTexts.{reply_text, plain, format_error_name}
use Rattle.zn_lines.specs.Session.{line_now, says, label_in, uuid_in, features_in, format_with, formats}
use Rattle.zn_lines.specs.Table.{no_numbers}
use Rattle.zn_mkfs.specs.Commands.{FormatReply}
use Rattle.zn_mkfs.specs.Formats.{IsUntried, IsFormat, FormatCause}
use Rattle.zn_volume.specs.Means.{spoils}
use Rattle.zn_session.specs.Replies.{Kept, text_of, IsWritable}
use Rattle.zn_session.specs.SessionState.{bare_held, table_by}
use Rattle.zn_session.specs.Steps.{LineCause, Means, told_by, ends}
use Rattle.zn_session.specs.declared.replies.Reply.{Reply}
use Rattle.zn_session.specs.declared.replies.Reply.TheVariants.{BadLabel, BadUuid, OptionRefused, FormatRefused, Done}
use Rattle.zn_session.proofs.LineCauses.{format_told, format_causes, format_goes}
use Rattle.zn_session.proofs.Meanings.{leaves_all}

-- the reply to what a format answered
abbrev pub format_reply : FormatReply → Reply
format_reply (Ok unit) = Done
format_reply (Err error) = FormatRefused error

reply_tells : (result : FormatReply) → told_by (format_reply result) ≡ format_told result
reply_tells (Ok unit) = refl
reply_tells (Err error) = refl

reply_says : (result : FormatReply) (kept : Kept) → text_of (format_reply result) kept ≡ reply_text plain format_error_name result
reply_says (Ok unit) kept = refl
reply_says (Err error) kept = refl

reply_writable : (result : FormatReply) (kept : Kept) → IsWritable (format_reply result) kept
reply_writable (Ok unit) kept = tt
reply_writable (Err error) kept = tt

module _ (words : FormatWords) (kept : Kept) (entropy : List ℕ) (d : DeviceState) (numbers : List (Option Handle)) (none : numbers ≡ no_numbers) (unspoilt : d.spoilt ≡ false) where
  -- by what the label, the identifier and the features are
  does_by : (given : List ℕ) → line_now given (table_by entropy (bare_held d) numbers) (Mkfs words) ≡ format_with given (label_in words.label) (uuid_in words.uuid entropy) (features_in words.features) words.force (table_by entropy (bare_held d) numbers)
  unfolding line_now
  does_by given = refl

  pub bad_label : label_in words.label ≡ None → Means line_now (Mkfs words) BadLabel kept entropy (bare_held d) (bare_held d) numbers numbers
  bad_label label =
      let t = table_by entropy (bare_held d) numbers in
      leaves_all (Mkfs words) BadLabel kept entropy (bare_held d) numbers tt refl
      (does_by [] ∙ ap (λ l. format_with [] l (uuid_in words.uuid entropy) (features_in words.features) words.force t) label) none unspoilt

  module _ (label : List ℕ) (label_is : label_in words.label ≡ Some label) where
    pub bad_uuid : uuid_in words.uuid entropy ≡ None → Means line_now (Mkfs words) BadUuid kept entropy (bare_held d) (bare_held d) numbers numbers
    bad_uuid uuid =
        let t = table_by entropy (bare_held d) numbers in
        leaves_all (Mkfs words) BadUuid kept entropy (bare_held d) numbers tt refl
        (does_by [] ∙ ap (λ l. format_with [] l (uuid_in words.uuid entropy) (features_in words.features) words.force t) label_is
        ∙ ap (λ u. format_with [] (Some label) u (features_in words.features) words.force t) uuid) none unspoilt

    module _ (uuid : List ℕ) (uuid_is : uuid_in words.uuid entropy ≡ Some uuid) where
      features_by : (given : List ℕ) (features : Result FormatOpts OptError) → features_in words.features ≡ features
          → line_now given (table_by entropy (bare_held d) numbers) (Mkfs words) ≡ format_with given (Some label) (Some uuid) features words.force (table_by entropy (bare_held d) numbers)
      features_by given features is =
          let t = table_by entropy (bare_held d) numbers in
          does_by given ∙ ap (λ l. format_with given l (uuid_in words.uuid entropy) (features_in words.features) words.force t) label_is
          ∙ ap (λ u. format_with given (Some label) u (features_in words.features) words.force t) uuid_is
          ∙ ap (λ f. format_with given (Some label) (Some uuid) f words.force t) is

      pub bad_features : (error : OptError) → features_in words.features ≡ Err error → Means line_now (Mkfs words) (OptionRefused error) kept entropy (bare_held d) (bare_held d) numbers numbers
      bad_features error is = leaves_all (Mkfs words) (OptionRefused error) kept entropy (bare_held d) numbers tt refl (features_by [] (Err error) is) none unspoilt

      module _ (opts : FormatOpts) (opts_is : features_in words.features ≡ Ok opts) (result : FormatReply) (after : DeviceState) (cause : FormatCause result d after) where
        goes_on : ends (format_reply result) ≡ false → spoils (format_told result) ≡ false
        goes_on goes = ap spoils (sym (reply_tells result)) ∙ goes

        -- the causes of the reply
        causes : geometry_of after.world ≡ geometry_of d.world → LineCause true (told_by (format_reply result)) d after
        causes geometry = let Causes : Result (Unit {0}) Refusal → Type 0 = λ told. LineCause true told d after in subst Causes (sym (reply_tells result)) (format_causes cause geometry)

        untried : IsUntried result d after → Means line_now (Mkfs words) (format_reply result) kept entropy (bare_held d) (bare_held after) numbers numbers
        untried is = record {
          given = [];
          writable = reply_writable result kept;
          step = λ goes. absurd (false≢true (sym (goes_on goes) ∙ ap (λ (r : FormatReply). spoils (format_told r)) is.why));
          numbered = λ goes. none;
          used = λ goes. omega arith;
          cause = causes (ap (λ (s : DeviceState). geometry_of s.world) is.same);
        }

        tried : IsFormat (super_block_by label uuid opts) words.force result d after → Means line_now (Mkfs words) (format_reply result) kept entropy (bare_held d) (bare_held after) numbers numbers
        tried is = record {
          given = is.given;
          writable = reply_writable result kept;
          step = λ goes.
              features_by is.given (Ok opts) opts_is
              ∙ ap (λ (a : FormatAnswer). formats a (table_by entropy (bare_held d) numbers)) (is.call (format_goes cause (goes_on goes)))
              ∙ ap (λ text. says text (table_by entropy (bare_held after) numbers)) (sym (reply_says result kept));
          numbered = λ goes. none;
          used = λ goes. omega arith;
          cause = causes is.commands.obeys.geometry;
        }

        pub formatted : IsUntried result d after ⊎ IsFormat (super_block_by label uuid opts) words.force result d after → Means line_now (Mkfs words) (format_reply result) kept entropy (bare_held d) (bare_held after) numbers numbers
        formatted done = elim done [ inl is ↦ untried is | inr is ↦ tried is ]
