mod Copied
