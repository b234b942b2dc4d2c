mod PlainLines
